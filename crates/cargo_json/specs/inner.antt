-- Definitions that only private functions use.
pub mod Members
