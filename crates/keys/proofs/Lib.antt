-- Laws of places and keys.
pub mod KeyLaws
pub mod Unique
