-- What theorems speak of; no contract uses it.
pub mod Ranges
pub mod FullSum
