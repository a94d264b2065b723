-- Laws of answers that are printed.
pub mod Laws
