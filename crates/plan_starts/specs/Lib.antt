pub mod Lists
pub mod PackageVisits
pub mod Targets
pub mod TargetViews
pub mod Starts
pub mod StartViews
pub mod UnfitWords
pub mod step_visits
pub use Rattle.guppy_packages.specs as guppy_packages
pub use Rattle.feature_labels.specs as feature_labels
pub use Rattle.plan_rows.specs as plan_rows
