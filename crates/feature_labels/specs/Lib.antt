pub mod Lists
pub mod Names
pub mod Orders
