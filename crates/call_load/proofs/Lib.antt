-- Laws of load.
mod Laws
