pub mod Branches
pub mod Cuts
pub mod Lines
pub mod Objects
pub mod Reach
pub mod Reversals
pub mod Titles
pub mod inner
