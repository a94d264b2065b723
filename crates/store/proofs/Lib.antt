-- Laws of the data store.
pub mod StoreLaws
pub mod Unique
