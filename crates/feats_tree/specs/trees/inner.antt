-- Definitions that only contracts of private functions use.
pub mod Levels
pub mod Nodes
pub mod Walks
