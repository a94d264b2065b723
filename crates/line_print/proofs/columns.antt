-- Laws of columns.
mod ColumnLaws
mod WordLaws
