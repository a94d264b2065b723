-- Laws of apply.
mod Laws
