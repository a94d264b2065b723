-- What the comparison of an example promises.
pub mod Comparison
