pub mod Chains
pub mod Routes
pub mod inner
