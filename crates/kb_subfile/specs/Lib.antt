pub mod Holds
pub mod Checks
pub mod Faults
pub mod Refusals
