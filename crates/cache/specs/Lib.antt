-- The cached keys as the rules see them.
pub mod View
pub mod Form
pub mod cached
