pub mod Items
pub mod Moves
pub mod Places
pub mod LeftLanguages
pub mod LastSymbols
pub mod Going
pub mod States
pub mod Multiplied
pub mod PairPlaces
pub mod RuleFollowing
pub mod RuleLanguages
pub mod RuleSteps
pub mod OwnRules
pub mod Gathered
mod Between
pub mod MarkLemmas
