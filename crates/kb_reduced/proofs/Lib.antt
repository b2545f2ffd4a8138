mod Factors
mod Joining
mod Least
pub mod Sorted
mod Complete
mod Covering
mod Found
mod SortedOnce
pub mod ForeignLetters
