pub mod Composite
pub mod Joining
pub mod Overlapping
pub mod Sides
pub mod Prefixes
pub mod Ways
