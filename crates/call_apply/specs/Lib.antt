-- What the parts of apply promise, and what it leaves.
pub mod Told
pub mod Left
