-- Laws of what is prepared.
pub mod Lists
pub mod Parts
pub mod Rows
pub mod Prepared
