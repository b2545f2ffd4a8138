pub mod Bytes
pub mod Calls
pub mod Loading
pub mod Shelves
pub mod States
pub mod Outside
