pub mod EffectLemmas
pub mod EquationLemmas
mod DerivationLemmas
pub mod HeldLogs
mod InverseLemmas
pub mod LoadEnds
pub mod LoadLemmas
mod NoReason
mod OneReason
pub mod RefusalLemmas
pub mod RunLemmas
pub mod StopLemmas
pub mod StoredLogs
mod StoreLemmas
