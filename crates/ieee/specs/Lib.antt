-- The definitions of this layer: a value in units of its format, rounding, ranges, what the conversions between f64 and f32 give,
-- the total order of floats, and what the functions that convert promise.
pub mod Range
pub mod Convert
pub mod TotalOrder
pub mod Inner
pub mod Theory
