-- What is shown of this layer's definitions.
pub mod Editions
pub mod Figures
pub mod Named
