-- A line that is not ended yet, and where a line ends in a piece of input.
pub mod View
