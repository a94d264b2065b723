-- Laws of read.
mod Named
mod Laws
