-- What is read from a line, as the line format sees it.
pub mod View
