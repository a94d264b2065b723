-- Laws of lines.
pub mod CallLaws
pub mod NumberLaws
