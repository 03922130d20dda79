-- Definitions that only contracts of private functions use.
pub mod Labelled
pub mod Rows
