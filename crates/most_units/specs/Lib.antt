-- The definitions of this layer: the largest unit count of the paths that are admitted, and what is answered for it on every call.
pub mod Most
pub mod Answers
pub mod Inner
pub mod Theory
