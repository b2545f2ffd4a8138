pub mod Structure
pub mod Axioms
pub mod Certificates
pub mod Labels
pub mod StructureOf
