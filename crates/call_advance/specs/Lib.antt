-- What an advance leaves.
pub mod Left
