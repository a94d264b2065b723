-- The proofs of the server.
mod Gathering
mod Laws
mod Joined
pub mod Input
