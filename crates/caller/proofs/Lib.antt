-- Laws of the session that calls, and of its end.
pub mod Laws
pub mod Standing
