-- The listing of a record, as bytes, and what rendering it promises.
pub mod Listing
pub mod Rendered
pub mod Inner
