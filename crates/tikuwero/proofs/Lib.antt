-- Laws that the exported functions' proofs share.
mod Limits
mod OneOutcome
