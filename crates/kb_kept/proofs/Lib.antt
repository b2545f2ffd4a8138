pub mod Remaining
pub mod Marks
pub mod Standings
