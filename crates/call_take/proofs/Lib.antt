-- Laws of take.
mod Laws
