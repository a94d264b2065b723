-- Laws of changes.
pub mod ChangeLaws
pub mod Unique
