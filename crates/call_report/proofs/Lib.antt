-- Laws of report.
pub mod Laws
