-- The definitions of this layer: paths, which of them a problem admits, their sums, and the cell rule that chooses one; the
-- problems of a phrase's stages, its passes in their order, and what is asked of an answer; and layered systems with their
-- tables, over which the rule is proved.
pub mod Problem
pub mod Path
pub mod Cell
pub mod CellRule
pub mod Frames
pub mod Anchors
pub mod Units
pub mod StageProblem
pub mod Passes
pub mod Demand
pub mod Search
pub mod Inner
pub mod Theory
