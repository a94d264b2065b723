-- Laws of a buffered session.
pub mod BatchLaws
pub mod Unique
