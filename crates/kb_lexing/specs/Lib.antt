pub mod Token
pub mod Spelling
pub mod Lexemes
pub mod Possible
