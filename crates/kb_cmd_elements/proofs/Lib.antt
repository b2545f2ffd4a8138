pub mod BallLemmas
pub mod CosetRuns
pub mod CosetsToldLemmas
pub mod KbcosRuns
pub mod RunLemmas
