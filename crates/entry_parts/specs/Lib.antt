-- Which calls are a session's.
pub mod Session
