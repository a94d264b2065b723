-- What a read shows.
pub mod Shown
