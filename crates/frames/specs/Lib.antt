-- The definitions of this layer: lists of frames, spans in order, and how an entry answers.
pub mod Outcome
pub mod Frames
pub mod Inner
pub mod Theory
