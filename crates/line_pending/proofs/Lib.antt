-- Laws of lines that are not ended yet.
pub mod Lent
pub mod Ending
pub mod Adding
