-- A place's value, and the tables it is found in.
pub mod Value
pub mod Sight
pub mod walk
