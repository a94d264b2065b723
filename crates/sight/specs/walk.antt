-- The walk as the rules see it.
pub mod View
