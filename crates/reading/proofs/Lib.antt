-- Steps of the readers' proofs.
mod Lists
mod Figures
mod Sections
mod Rows
