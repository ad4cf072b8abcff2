-- The definitions of this layer: the ways into a cell and what the cell rule keeps of them, the cells of the two work areas, and
-- the problem that the tables of a stage give.
pub mod Ways
pub mod Rows
pub mod Units
pub mod Reads
pub mod Inputs
pub mod Ends
pub mod Traced
