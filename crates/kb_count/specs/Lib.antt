pub mod Decimal
pub mod Limbs
pub mod Counts
pub mod Totals
