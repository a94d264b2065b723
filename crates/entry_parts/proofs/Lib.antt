-- Laws of the arms over all calls.
pub mod Laws
