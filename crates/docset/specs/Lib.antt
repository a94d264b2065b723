-- Sets of documents as the rules see them.
pub mod Sets
