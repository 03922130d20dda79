pub mod Lines
pub mod Objects
pub mod Shown
pub mod Texts
pub mod Views
