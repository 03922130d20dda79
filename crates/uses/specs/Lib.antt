pub mod Answers
pub mod Linted
