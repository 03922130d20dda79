pub mod OpenWays
pub mod ChosenEdges
pub mod Releases
