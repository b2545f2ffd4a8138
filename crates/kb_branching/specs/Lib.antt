pub mod Branching
pub mod Exploration
pub mod Progress
