-- The definitions of this layer: a record's bytes, its layout, the refusals and what it means.
pub mod Bytes
pub mod Below
pub mod Format
pub mod Layout
pub mod Conditions
pub mod Refusals
pub mod Meaning
pub mod Inner
