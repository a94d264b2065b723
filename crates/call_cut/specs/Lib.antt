-- What a cut leaves.
pub mod Left
