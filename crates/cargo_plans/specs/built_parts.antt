pub mod Built
pub mod BuiltViews
pub mod Scripts
