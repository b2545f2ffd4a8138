pub mod Commands
pub mod CommandLaws
pub mod CommandLine
pub mod Headline
