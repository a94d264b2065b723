-- Laws of calls as values.
pub mod Back
