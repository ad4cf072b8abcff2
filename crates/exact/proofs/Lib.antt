-- Whole numbers as differences of two naturals; figures as such; and the error of each rounded operation.
pub mod Parts
pub mod Scaled
pub mod Halves
pub mod HalfPlace
mod Nearest
pub mod Errors
