pub mod DeclaredSpecs
pub mod HeldSpecs
pub mod SpecFaults
pub mod PlatformLinks
pub mod inner
