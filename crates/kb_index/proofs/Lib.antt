pub mod Listing
pub mod Places
pub mod Sides
pub mod Fronts
