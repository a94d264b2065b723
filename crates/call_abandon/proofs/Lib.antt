-- Laws of abandon.
mod Laws
