pub mod Leading
pub mod Batches
