pub mod Stages
pub mod Halting
pub mod LiveRules
mod Ascending
mod Sifted
mod Picking
mod RowByRow
pub mod Entries
mod Progress
pub mod Sieving
pub mod Overlapping
pub mod NoneApart
pub mod Marks
pub mod Known
pub mod SideLemmas
pub mod LineSteps
pub mod Rests
pub mod Staying
pub mod Balanced
