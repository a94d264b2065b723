-- Laws of a caller's numbers.
pub mod Numbers
