pub mod Entries
pub mod Inheritances
pub mod InheritanceView
pub mod Manifests
