-- Laws of clipping.
pub mod Units
pub mod Reports
pub mod Order
pub mod Examples
