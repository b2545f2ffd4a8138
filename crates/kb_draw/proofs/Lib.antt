pub mod Sums
pub mod Counting
pub mod Steps
pub mod Seats
pub mod Sharing
mod Finding
mod Filling
mod Order
