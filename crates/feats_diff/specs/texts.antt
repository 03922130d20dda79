pub mod Lines
pub mod Objects
pub mod Shown
pub mod Titles
pub mod Views
pub mod inner
