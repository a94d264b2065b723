-- Laws of sweep.
mod Laws
