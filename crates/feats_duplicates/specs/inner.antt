-- Definitions for private functions.
pub mod Dependents
pub mod Groups
pub mod JoinViews
pub mod Rows
pub mod Sets
