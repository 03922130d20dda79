pub mod DeclaredSpecs
pub mod HeldSpecs
pub mod SpecFaults
pub mod Views
pub mod inner
