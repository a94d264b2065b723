-- What a server promises, of one piece and of a whole input.
pub mod Fed
pub mod Input
