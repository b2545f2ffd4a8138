pub mod ListLemmas
pub mod PrintLemmas
