pub mod Alone
pub mod Built
pub mod Dependents
pub mod DisagreementViews
pub mod Disagreements
pub mod Duplicates
pub mod DuplicatesView
pub mod Features
pub mod Joined
pub mod MemberPlans
pub mod Places
pub mod Versions
pub mod Views
pub mod inner
pub use Rattle.cargo_plans.specs as cargo_plans
