-- A cached key as the rules see it.
pub mod View
pub mod Form
