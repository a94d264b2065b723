-- Laws of the cached keys.
pub mod CacheLaws
pub mod Current
pub mod Unique
