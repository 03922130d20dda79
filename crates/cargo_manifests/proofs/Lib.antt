pub mod Documents
pub mod EditLemmas
pub mod Once
