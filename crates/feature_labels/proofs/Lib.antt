pub mod Derived
pub mod Listed
pub mod Made
pub mod OrderLemmas
pub mod Searched
pub mod Texts
