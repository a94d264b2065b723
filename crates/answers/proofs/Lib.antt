-- Laws of answers.
pub mod Own
pub mod Passing
