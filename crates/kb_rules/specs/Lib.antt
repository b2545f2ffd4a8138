pub mod Agreement
pub mod OrderedRules
pub mod Ending
pub mod Sides
pub mod Steps
