pub mod Counted
pub mod Marked
pub mod Meant
