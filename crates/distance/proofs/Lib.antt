-- How far the sums of paths lie from the exact ones, and what that says of every path of an accepted record and of the one that is returned.
mod Paths
mod Figures
mod Powers
mod Editions
pub mod Records
pub mod Returned
pub mod Compared
mod InNumbers
mod Examples
