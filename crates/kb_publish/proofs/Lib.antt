pub mod Lists
pub mod Entering
pub mod Steps
pub mod Changing
pub mod Showing
