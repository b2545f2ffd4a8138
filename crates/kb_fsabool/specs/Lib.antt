pub mod Answers
pub mod Products
pub mod Complements
