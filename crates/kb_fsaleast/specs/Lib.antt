pub mod LeastText
pub mod Marks
pub mod Classes
