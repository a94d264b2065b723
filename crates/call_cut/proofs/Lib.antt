-- Laws of cut.
mod Laws
