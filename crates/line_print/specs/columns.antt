-- What is printed.
pub mod Printed
