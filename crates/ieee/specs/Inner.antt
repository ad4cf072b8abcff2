-- What functions promise one another; no promise of an entry uses it.
pub mod Value
pub mod Conversions
pub mod Ranges
pub mod Keys
