-- Laws of lines.
pub mod LineLaws
mod Written
