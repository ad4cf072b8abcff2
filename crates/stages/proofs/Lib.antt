-- Laws of the tables of a stage.
pub mod Written
pub mod Edges
pub mod Speech
pub mod Kept
pub mod Places
pub mod Held
pub mod Stage
pub mod OwnTables
pub mod Last
pub mod Origins
pub mod Searched
