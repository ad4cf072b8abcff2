-- What functions promise one another; no promise of an entry uses it.
pub mod Left
