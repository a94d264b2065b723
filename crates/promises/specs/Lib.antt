-- What the functions of a call promise.
pub mod Promise
