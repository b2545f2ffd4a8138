pub mod Reduced
pub mod Minimal
