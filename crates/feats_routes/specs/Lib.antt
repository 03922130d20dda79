pub mod Kinds
pub mod Lines
pub mod Objects
pub mod Routes
pub mod Shown
