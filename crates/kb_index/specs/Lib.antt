pub mod Lefts
pub mod Automata
