mod OptionLemmas
mod ListLemmas
mod BuiltLemmas
mod NodePackages
mod Offered
mod PackageLemmas
mod SetLemmas
mod VerifyLemmas
pub mod MemberNames
pub mod Visits
pub mod WorkspaceLemmas
pub mod RangeLemmas
pub mod SameFeatures
pub mod PackageListLemmas
pub mod OrderedLemmas
pub mod PartLemmas
pub mod SplitLemmas
pub mod PackageSetLemmas
pub mod PackageViewLemmas
pub mod TiedLemmas
mod ToldLemmas
mod NumberedLemmas
pub mod Explanations
mod CheckLemmas
mod PassLemmas
pub mod LentLemmas
