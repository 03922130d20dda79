pub mod Links
pub mod Facts
pub mod Values
pub mod NamedLinks
pub mod inner
