-- Laws of the workers' tables.
pub mod HandLaws
pub mod QueueLaws
pub mod Unique
