-- The table of sessions as the rules see it.
pub mod View
pub mod Form
pub mod session
