pub mod Likeness
pub mod OneLabel
