-- The lemmas.
mod Decisions
mod Growing
mod GoingOn
mod LiveRules
mod EqualitiesOver
mod KeptEqualities
mod TriedAtHalt
mod RulesOfLogs
mod GatheredRounds
mod IrreducibleEqualities
mod StuckRounds
