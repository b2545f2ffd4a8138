pub mod NameLemmas
pub mod ProductLemmas
pub mod PassLemmas
pub mod FactorLemmas
pub mod PowerLemmas
