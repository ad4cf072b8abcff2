-- Laws of sorted frames, their gaps and the median.
pub mod Sorted
pub mod Places
mod Falls
mod Ranks
mod Placing
mod Filling
mod GapWalk
mod NextSmaller
mod Reach
pub mod Middle
pub mod Examples
mod OneOutcome
