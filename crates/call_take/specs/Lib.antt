-- What a take leaves.
pub mod Left
