-- Definitions that only contracts of private functions use.
pub mod Views
