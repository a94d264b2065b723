-- Laws of commit.
mod Laws
