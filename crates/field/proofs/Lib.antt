-- The laws behind the methods, each file after those that it builds on.
-- numbers of 32 bits
pub mod Signed
-- what is seen of a field
pub mod ViewLaws
-- the methods
pub mod ChangeLaws
pub mod WordLaws
-- what other crates use
pub mod Claims
