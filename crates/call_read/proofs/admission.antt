-- Laws of who is turned away from a read.
pub mod AdmissionLaws
