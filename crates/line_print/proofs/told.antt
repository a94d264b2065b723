-- Laws of what an answer tells.
pub mod ToldLaws
