pub mod Letters
pub mod Products
pub mod Factors
