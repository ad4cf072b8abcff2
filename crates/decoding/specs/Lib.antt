-- The units reported for a path, the entry of a candidate, and what decoding promises.
pub mod Report
pub mod EntryOf
pub mod Contract
pub mod Theory
