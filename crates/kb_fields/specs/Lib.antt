pub mod FirstFaults
pub mod Fields
pub mod Generators
