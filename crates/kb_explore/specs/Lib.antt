pub mod Machine
pub mod Exploration
pub mod FirstAccepted
pub mod Progress
pub mod Search
pub mod Tracing
