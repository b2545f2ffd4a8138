pub mod Classes
pub mod Quotient
pub mod Empty
pub mod Rounds
pub mod Firsts
pub mod Partitions
pub mod Splitting
