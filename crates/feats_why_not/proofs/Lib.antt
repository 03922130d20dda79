pub mod Each
pub mod Gathered
pub mod FoundLemmas
pub mod StandingLemmas
pub mod Tokens
pub mod Zips
