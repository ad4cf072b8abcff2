-- Laws of spans and of the words that they are written as.
mod Words
pub mod Cuts
mod Splits
mod CutEdges
pub mod SpanFacts
pub mod Examples
mod OneOutcome
