pub mod Printed
pub mod Writing
pub mod Printable
pub mod Written
