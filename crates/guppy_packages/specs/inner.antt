-- Definitions for private functions: the two passes, one row at a time; sets of names; the state of the second pass; the
-- first link of each package; texts that are appended to one another; the texts of rows; texts with a slash; and what declarations
-- share.
pub mod Begins
pub mod Declarations
pub mod NameSets
pub mod Noted
pub mod Pushed
pub mod RowTexts
pub mod Slashes
pub mod SpecPlatforms
pub mod Steps
