pub mod Prefixes
pub mod Tries
pub mod Dictionary
