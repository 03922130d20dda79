pub mod Cells
pub mod Joins
pub mod Merges
pub mod Names
pub mod Sorted
pub mod Tokens
pub mod Whole
