-- The laws of the comparison.
mod Laws
