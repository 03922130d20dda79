pub mod rows
pub mod answers
pub mod plans
