-- The definitions of this layer: which spans are reported, and the units that arrays hold.
pub mod Clip
pub mod Inner
pub mod Theory
