pub mod ArgumentLemmas
pub mod LimitLemmas
pub mod WordsLemmas
pub mod AutomataLemmas
pub mod CompletionLemmas
pub mod ElementsLemmas
pub mod StructuresLemmas
pub mod ProofsLemmas
