pub mod Builds
pub mod Checks
pub mod Found
pub mod Meanings
pub mod Spots
pub mod Views
pub mod inner
