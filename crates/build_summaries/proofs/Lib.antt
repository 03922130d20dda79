pub mod SortedPackages
pub mod Ways
