-- What a delete leaves.
pub mod Left
