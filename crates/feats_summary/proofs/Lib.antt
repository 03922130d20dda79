pub mod Entries
pub mod SamePackages
