pub mod Reduced
pub mod Rounds
pub mod Figures
pub mod Shown
pub mod Kept
