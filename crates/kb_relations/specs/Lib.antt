pub mod Images
pub mod Composites
pub mod Acts
pub mod Stops
pub mod Progress
pub mod Trails
