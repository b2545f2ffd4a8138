pub mod LeftSides
pub mod Rules
pub mod LeftMachine
pub mod RuleMachine
pub mod Progress
pub mod Marks
pub mod OwnSystem
