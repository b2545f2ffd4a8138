pub mod WordLines
pub mod Streams
pub mod Progress
pub mod Reading
pub mod Answered
pub mod Batches
