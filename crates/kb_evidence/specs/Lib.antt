pub mod Files
pub mod FileLaws
pub mod Shown
pub mod Settled
pub mod SettledLaws
