pub mod Lines
pub mod Derivations
pub mod Justified
pub mod States
pub mod Machine
pub mod Course
pub mod Letters
