-- Laws that the proofs of the calls use.
pub mod Keeping
pub mod Telling
pub mod Leaving
pub mod Numbers
pub mod Worker
