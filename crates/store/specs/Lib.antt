-- The data store as the rules see it.
pub mod View
