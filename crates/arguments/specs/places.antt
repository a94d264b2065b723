-- The places that a map names as the rules see them.
pub mod View
