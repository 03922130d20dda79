pub mod LossViews
pub mod Losses
pub mod Orders
pub mod SlimViews
pub mod Slims
pub mod inner
pub use Rattle.cargo_plans.specs as cargo_plans
