pub mod CheckLemmas
pub mod FaultLemmas
pub mod OneFault
pub mod WordLemmas
