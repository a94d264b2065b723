-- Laws of the buffer.
pub mod BufferLaws
pub mod Unique
