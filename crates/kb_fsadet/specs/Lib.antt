pub mod Nondeterministic
pub mod SubsetConstruction
pub mod Marks
pub mod Avoidance
pub mod Projection
pub mod FirstWords
