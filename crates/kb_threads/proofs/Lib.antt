pub mod Numbers
pub mod Stages
mod NothingFound
pub mod Settled
