-- What a begin leaves.
pub mod Left
