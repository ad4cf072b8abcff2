-- What is proved of parts of the work areas and of the rows in them, of the tables of a stage, and of the answers of the passes.
pub mod Parts
pub mod Filling
pub mod Bridge
pub mod Reaching
pub mod Chosen
pub mod AllRows
pub mod Restored
pub mod Staged
pub mod Answers
pub mod InOrder
