pub mod Held
pub mod Says
pub mod Targets
