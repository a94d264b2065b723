-- The line that is printed.
pub mod Line
pub mod columns
pub mod told
