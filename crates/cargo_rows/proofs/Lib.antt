pub mod IdSets
pub mod Joined
pub mod WarningLists
pub mod Whole
