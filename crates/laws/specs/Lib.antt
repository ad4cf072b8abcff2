-- Definitions of lists, numbers, rules and outcomes that speak of nothing of the decoder.
pub mod Listed
pub mod Rules
pub mod Inner
pub mod Theory
