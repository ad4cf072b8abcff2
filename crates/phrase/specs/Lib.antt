-- The definitions of this layer: what a record means, what frames outside every unit cost, and how units without an anchor
-- are scored.
pub mod Phrase
pub mod Filler
pub mod Inner
