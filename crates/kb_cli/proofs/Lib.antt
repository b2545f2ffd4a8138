pub mod LineLemmas
pub mod NameLemmas
pub mod CommandLemmas
pub mod HeadlineLemmas
