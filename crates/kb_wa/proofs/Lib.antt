pub mod Inserting
pub mod States
pub mod Reading
pub mod Counting
pub mod Moves
pub mod Accepting
