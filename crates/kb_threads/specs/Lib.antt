pub mod Shared
pub mod Passes
pub mod Sweeps
pub mod Settling
