pub mod Composition
pub mod StatePairs
pub mod Tails
pub mod Progress
pub mod Along
