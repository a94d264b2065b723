-- Laws of delete.
mod Laws
