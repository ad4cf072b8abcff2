-- Laws of this layer's definitions.
mod Tail
mod Examples
mod Chains
mod OneOutcome
