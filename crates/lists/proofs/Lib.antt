-- General laws: loops, tables through a view, tables by index, forms, lists by their numbers, parts of lists, slices through a view.
pub mod Loops
pub mod Views
pub mod Indexed
pub mod Forms
pub mod Remake
pub mod Ends
pub mod Sift
pub mod Walks
pub mod Parts
pub mod Iterators
pub mod Kept
