-- The definitions of the test program: what a stored case says of lent memory.
pub mod Marks
