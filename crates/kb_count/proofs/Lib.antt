pub mod Sums
pub mod Digits
pub mod Listings
pub mod Moves
pub mod Endless
pub mod Settling
