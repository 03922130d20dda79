-- Definitions for private functions.
pub mod Lists
