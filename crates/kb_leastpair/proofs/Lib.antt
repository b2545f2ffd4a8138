pub mod SecondMoves
pub mod SecondRuns
pub mod Pairs
