-- Laws of a cached key.
pub mod CachedLaws
pub mod Unique
