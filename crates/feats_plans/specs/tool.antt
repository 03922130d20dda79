pub mod AnsweredView
pub mod Answers
pub mod Exclusions
pub mod Rules
pub mod Run
pub mod WordFaults
pub mod lost_dependencies
