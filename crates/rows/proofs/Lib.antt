-- Laws of rows.
pub mod Unique
