pub mod Faults
pub mod Matches
pub mod Names
pub mod Suggestions
pub mod Views
pub mod inner
pub mod wider
