pub mod Bytes
pub mod PartLemmas
pub mod TextLemmas
pub mod LineLemmas
pub mod PrintLemmas
pub mod LogLemmas
pub mod HeaderLemmas
pub mod SameLemmas
pub mod FaultLemmas
mod OneFault
mod TextLengths
pub mod Completions
pub mod Listed
pub mod Replays
pub mod Standing
pub mod FirstFaults
pub mod OneAnswer
pub mod SameAnswers
pub mod Marking
pub mod Naming
pub mod Leaving
pub mod Factors
pub mod FirstReasons
pub mod Sides
mod Keeping
