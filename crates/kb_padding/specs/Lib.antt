pub mod Misplaced
pub mod Cleaning
