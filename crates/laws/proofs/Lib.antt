-- Laws of tests, numbers, lists and rules in order, each stated once.
pub mod Tests
pub mod Choices
pub mod Numbers
pub mod Lists
pub mod Each
pub mod Stores
pub mod Listed
pub mod Filling
pub mod Range
pub mod Convex
pub mod Rewriting
pub mod Rules
pub mod OneOutcome
mod RuleExamples
