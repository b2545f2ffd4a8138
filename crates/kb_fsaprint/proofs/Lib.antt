pub mod Writings
pub mod WrittenTrees
pub mod WrittenAutomata
