pub mod Held
pub mod LinkSpecs
pub mod ListedLemmas
pub mod Members
pub mod Offers
mod PlatformLemmas
pub mod TextSets
