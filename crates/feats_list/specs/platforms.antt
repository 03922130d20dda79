pub mod Lines
pub mod Lists
pub mod Objects
pub mod Views
pub mod inner
