-- What theorems speak of; no contract uses it.
pub mod Alike
pub mod Bounded
pub mod Finite
pub mod LookAhead
pub mod PathSystem
pub mod System
pub mod Table
