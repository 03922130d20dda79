pub mod Loops
pub mod Members
pub mod Pushed
pub mod Tokens
