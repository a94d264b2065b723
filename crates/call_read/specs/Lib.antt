-- What a read shows and leaves.
pub mod Shows
pub mod Left
