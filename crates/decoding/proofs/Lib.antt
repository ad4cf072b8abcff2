-- What holds of every decoder that meets the contract, and what helps to show that one does.
pub mod Calls
pub mod Bounded
pub mod Units
pub mod Admitted
pub mod Demands
pub mod Totals
pub mod Decodes
pub mod OneOutcome
pub mod AtRank
pub mod FullSum
pub mod Alike
pub mod Examples
