pub mod LeastPair
pub mod SecondWords
