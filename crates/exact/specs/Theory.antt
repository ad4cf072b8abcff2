-- What theorems speak of; no contract uses it.
pub mod Close
