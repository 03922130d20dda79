-- Definitions that only contracts of private functions use.
pub mod Groups
pub mod Marks
pub mod Reaches
