pub mod Packages
pub mod Edges
pub mod Descriptions
