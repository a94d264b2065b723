-- Laws of change.
mod Laws
mod Left
