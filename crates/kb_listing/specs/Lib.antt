pub mod Asked
pub mod AskedLaws
pub mod Listed
pub mod Printing
