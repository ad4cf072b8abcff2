-- What is proved of the cells of the work areas, of what arrives in a row, and of the rows, their ends and the way back as they are gone through.
pub mod Cells
pub mod Tables
pub mod Steps
mod Arrivals
mod Kept
mod Starting
mod Filling
mod Tracing
mod Ending
