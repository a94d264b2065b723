-- Laws of map.
mod Laws
