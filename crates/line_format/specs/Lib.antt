-- The line format.
pub mod Bytes
pub mod Columns
pub mod Demand3
pub mod Demands
pub mod Feeding
pub mod Lines
pub mod Serving
pub mod Worked
