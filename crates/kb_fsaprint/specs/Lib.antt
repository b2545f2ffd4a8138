pub mod Printed
pub mod Writing
