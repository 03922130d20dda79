pub mod Counts
pub mod Tokens
