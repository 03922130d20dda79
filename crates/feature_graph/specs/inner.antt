pub mod CycleSteps
pub mod MemberLabels
pub mod PackageSteps
pub mod Sorting
pub mod Numbered
pub mod Listings
