-- The definitions of this layer: numbers that every edition shares, those of an edition and the sizes that follow, what the code
-- has room for, and the numbers of the refusals.
pub mod Common
pub mod Edition
pub mod Sizes
pub mod Capacity
pub mod Refusals
pub mod Inner
