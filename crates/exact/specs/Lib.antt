-- The definitions of this layer: a figure as a whole number, and how far whole numbers are apart.
pub mod Scaled
pub mod Apart
pub mod Theory
