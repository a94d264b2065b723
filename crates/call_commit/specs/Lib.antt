-- What a commit leaves.
pub mod Left
