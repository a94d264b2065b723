-- Laws of the call `store`.
mod Laws
