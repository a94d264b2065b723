-- Laws of the table of sessions.
pub mod SessionsLaws
pub mod Unique
