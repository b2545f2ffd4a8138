pub mod Completing
pub mod Working
