pub mod FirstApart
pub mod Answers
pub mod Rows
pub mod Shares
pub mod PrimeRows
