-- A field and the answer of a change as the rules see them.
pub mod View
