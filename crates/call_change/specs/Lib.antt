-- What a change meets.
pub mod Met
