pub mod CountLemmas
pub mod MakeLemmas
pub mod PrintLemmas
pub mod RunLemmas
