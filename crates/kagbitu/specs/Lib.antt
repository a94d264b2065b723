-- What the line program's calls of the system come to, what of a buffer is unused, and what the loop has done.
pub mod Transfer
pub mod Part
pub mod Run
