-- The laws of IEEE 754's order and operations, for any format; what narrowing and the total order rest on; worked examples.
pub mod Value
pub mod Order
pub mod Rounding
pub mod Result
pub mod Monotone
pub mod Magnitude
pub mod Weight
pub mod Pattern
pub mod PatternRange
mod NarrowNearest
mod Coded
mod NarrowPattern
mod NarrowShift
mod NarrowFields
mod NarrowCases
pub mod NarrowClamp
mod TotalOrderMagnitude
pub mod TotalOrder
mod RangeExamples
pub mod ConvertExamples
