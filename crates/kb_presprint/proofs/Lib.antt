pub mod Writings
pub mod WrittenTrees
pub mod WrittenWords
pub mod WrittenPresentations
pub mod ReadPresentations
