-- Definitions for private functions.
pub mod Nodes
pub mod Lasts
