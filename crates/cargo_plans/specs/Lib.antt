pub mod Plans
pub mod Refusals
pub mod WordsView
pub mod inner
pub mod plan_units
pub mod plan_steps
pub mod built_parts
pub use Rattle.plan_rows.specs as plan_rows
pub use Rattle.plan_starts.specs as plan_starts
