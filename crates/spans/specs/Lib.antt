-- The definitions of this layer: spans, from document 01, "Spans, marks and order", and what a walk over ascending lists asks and hands on.
pub mod Spans
pub mod Inner
