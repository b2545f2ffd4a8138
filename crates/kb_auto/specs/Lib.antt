pub mod Deciding
pub mod Rounds
pub mod Kept
pub mod Autgroup
pub mod Trials
