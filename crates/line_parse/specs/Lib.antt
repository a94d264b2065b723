-- What a line says, as the line format sees it.
pub mod View
pub mod columns
