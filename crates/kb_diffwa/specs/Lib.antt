pub mod Tracks
pub mod Pairs
pub mod Multipliers
pub mod Comparing
pub mod Rivals
pub mod RivalMoves
pub mod RivalSets
pub mod SameSets
