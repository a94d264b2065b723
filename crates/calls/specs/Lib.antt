-- Calls as the rules see them, and lists of calls.
pub mod View
