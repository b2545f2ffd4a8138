pub mod Listed
pub mod Finding
