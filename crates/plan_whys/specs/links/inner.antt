-- Definitions for private functions.
pub mod Pairs
pub mod Places
pub mod Starting
