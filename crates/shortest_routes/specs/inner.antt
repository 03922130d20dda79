-- Definitions that only contracts of private functions use.
pub mod Links
pub mod Nearest
pub mod Searches
pub mod Steps
