pub mod Tables
pub mod Exact
pub mod Whys
pub mod Places
pub mod inner
