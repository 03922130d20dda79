pub mod Orders
pub mod Paths
pub mod Strings
pub mod Summaries
pub mod Views
pub mod inner
