pub mod Groups
pub mod Differences
pub mod Keeping
pub mod Kept
pub mod Steps
pub mod Tables
pub mod Languages
