-- The plant as the rules see it.
pub mod View
pub mod With
