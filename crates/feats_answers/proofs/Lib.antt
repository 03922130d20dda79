pub mod Built
pub mod Found
pub mod Says
pub mod Shown
pub mod Zips
