-- What a read shows.
pub mod Fields
pub mod values
