pub mod Dots
pub mod Views
