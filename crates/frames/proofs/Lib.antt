-- Laws of lists of frames, and of how an entry with rules answers.
pub mod Walk
mod Nearest
pub mod Neighbours
pub mod Ascending
pub mod Distinct
pub mod Checks
pub mod Outcomes
