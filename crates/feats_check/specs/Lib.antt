pub mod texts
pub mod checking
