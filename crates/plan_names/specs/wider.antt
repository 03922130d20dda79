pub mod widenings
pub mod texts
