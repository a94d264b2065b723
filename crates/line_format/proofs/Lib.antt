-- Laws of the line format.
mod WorkedLines
pub mod Worked
pub mod Short
pub mod Cutting
pub mod Serving
pub mod Words
pub mod Feeding
pub mod ReadBack
pub mod Widths
pub mod Demand3
pub mod Demands
