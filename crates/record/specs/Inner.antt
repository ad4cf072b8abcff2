-- What functions promise one another; no promise of an entry uses it.
pub mod Accepted
pub mod Bounds
pub mod Reading
pub mod Checks
