-- The definitions of this layer: the rows of each count, what a search reads, what it reports and what it is asked, and the answer of the
-- passes.
pub mod Filled
pub mod Searched
pub mod Reported
pub mod Asked
pub mod Tasks
pub mod Answered
