pub mod LedWords
pub mod DifferenceStructures
pub mod CanonicalForms
mod Elements
mod Letters
mod Leading
mod KeptDifferences
mod LeastWords
mod GeneratorForms
mod SoundStructures
mod Extensions
mod MadeStructures
mod Certificates
