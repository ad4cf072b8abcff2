-- Texts and numbers as bytes, and what writing some of them into a slice does.
pub mod Ascii
pub mod Inner
