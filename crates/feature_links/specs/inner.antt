pub mod Collected
pub mod LinkOrder
pub mod Shared
