pub mod Labels
pub mod Places
pub mod LivePart
pub mod Comparing
pub mod Unequal
pub mod Seconds
pub mod OrderProps
pub mod Layers
