-- What functions promise one another; no promise of an entry uses it.
pub mod Marks
pub mod Ranges
pub mod Order
pub mod Held
