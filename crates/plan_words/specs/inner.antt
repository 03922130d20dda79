-- Definitions for private functions.
pub mod Lookups
pub mod Urls
pub mod Views
