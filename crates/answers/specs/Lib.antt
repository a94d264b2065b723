-- Answers as the rules see them, and whose they are.
pub mod View
pub mod Own
