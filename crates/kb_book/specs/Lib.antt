pub mod Limited
pub mod Lives
pub mod Books
pub mod Problems
pub mod Answers
pub mod Factors
pub mod Normal
pub mod Shorter
