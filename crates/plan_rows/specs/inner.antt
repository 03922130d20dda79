-- Definitions for private functions.
pub mod Leads
pub mod Merged
pub mod Starts
