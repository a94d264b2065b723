-- The proofs of the line program.
mod Laws
pub mod Run
