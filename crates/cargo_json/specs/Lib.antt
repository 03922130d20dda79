pub mod Faults
pub mod Fields
pub mod Parts
pub mod inner
