pub mod Lines
pub mod Policies
pub mod Problems
pub mod Rules
pub mod Views
pub mod inner
pub mod checks
pub use Rattle.plan_whys.specs as plan_whys
