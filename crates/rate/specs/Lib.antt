-- The definitions of this layer, from document 01, "Spans, marks and order", and document 02, Ask 3.
pub mod Rate
pub mod Place
pub mod Inner
