-- The definitions of this layer: the exact sum of a path, that of a phrase's stage, and how near the f64 sum is to it.
pub mod ExactSum
pub mod ExactStage
pub mod Distance
pub mod Theory
