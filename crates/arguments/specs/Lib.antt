-- The numbers that a caller's stand for.
pub mod Numbers
pub mod places
