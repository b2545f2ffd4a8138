pub mod Joined
mod Keys
mod Lists
mod Walking
mod Collecting
mod Indexing
pub mod Occurrences
pub mod Replacements
pub mod Connected
mod Narrowed
mod Inside
pub mod Criterion
mod Gaining
mod Suffixed
mod Ended
mod Reached
mod Sticking
mod Prefixed
mod Sweeping
