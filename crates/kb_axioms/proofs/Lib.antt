pub mod Different
pub mod Truths
pub mod Passing
pub mod Own
pub mod GroupAutomata
pub mod Presented
