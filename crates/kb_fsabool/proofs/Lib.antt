pub mod RowMerges
pub mod ProductLemmas
pub mod Differences
pub mod ComplementLemmas
