-- Laws of begin.
mod Laws
