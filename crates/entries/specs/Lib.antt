-- The definitions of this layer: result entries, their words, and their ranking.
pub mod Entry
pub mod Words
pub mod Ranking
pub mod Inner
pub mod Theory
