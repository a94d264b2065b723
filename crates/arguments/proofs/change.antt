-- Laws of a caller's changes.
mod Reading
mod Meeting
-- what callers learn
pub mod Asked
