pub mod CountingLemmas
pub mod ExplorationLemmas
pub mod Lists
mod Continuations
mod Inserting
mod Leading
mod ExplorationSteps
mod Rows
mod Traces
mod Starting
mod Finishing
mod OtherAnswers
mod Reached
mod Searches
