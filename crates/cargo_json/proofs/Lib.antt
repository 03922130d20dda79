pub mod Split
pub mod Texts
