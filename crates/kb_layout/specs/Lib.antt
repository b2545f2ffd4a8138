pub mod Layout
pub mod Printing
