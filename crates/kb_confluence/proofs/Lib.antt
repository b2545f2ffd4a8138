pub mod LeastWords
mod Checking
mod Verdicts
mod RowVerdicts
mod PrimeRows
