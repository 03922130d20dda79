pub mod Lost
pub mod Strings
