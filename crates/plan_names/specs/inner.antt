-- Definitions for private functions.
pub mod Cuts
pub mod Marks
pub mod Nears
pub mod News
