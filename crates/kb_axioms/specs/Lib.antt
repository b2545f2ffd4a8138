pub mod Checked
pub mod Truth
pub mod Answered
