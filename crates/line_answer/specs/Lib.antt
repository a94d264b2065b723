-- What printing an answer promises.
pub mod Answered
