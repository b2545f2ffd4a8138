pub mod Subgroups
pub mod Cosets
pub mod Marked
pub mod CosetWords
