-- Laws of texts in a slice, and of digits.
pub mod Putting
pub mod Digits
mod Examples
