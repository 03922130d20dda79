pub mod changes
pub mod texts
