pub mod Completed
pub mod OneCompletion
pub mod Evidence
pub mod Problems
pub mod Ended
pub mod Logged
