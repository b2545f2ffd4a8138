pub mod InverseLemmas
pub mod NameLemmas
pub mod PathLemmas
pub mod Places
pub mod ComparisonLemmas
pub mod PrintLemmas
