-- Definitions that only contracts of private functions use.
pub mod Joined
pub mod Merges
pub mod Names
