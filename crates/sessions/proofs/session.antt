-- Laws of a session.
pub mod SessionLaws
pub mod LapseLaws
pub mod FormLaws
pub mod Unique
pub mod Granting
