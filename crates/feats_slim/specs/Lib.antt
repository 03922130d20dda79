pub mod edits
pub mod answers
