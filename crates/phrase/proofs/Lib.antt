-- What is shown of this layer's definitions.
pub mod Examples
pub mod Halves
