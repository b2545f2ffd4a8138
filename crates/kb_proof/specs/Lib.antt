pub mod Printed
pub mod Printable
pub mod Faults
pub mod Reading
pub mod Same
pub mod Completions
pub mod Verifying
pub mod Checking
