-- Laws of advance.
mod Laws
