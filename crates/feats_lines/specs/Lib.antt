pub mod Kinds
pub mod Lines
pub mod Objects
pub mod Repeats
pub mod Views
pub mod inner
pub mod parts
