pub mod Packages
pub mod Places
pub mod Summaries
pub mod inner
