-- The definitions of this layer: what is prepared of a stage.
pub mod Sides
