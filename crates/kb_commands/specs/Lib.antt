pub mod Arguments
pub mod Limits
pub mod Words
pub mod Automata
pub mod Completion
pub mod Elements
pub mod Structures
pub mod Proofs
