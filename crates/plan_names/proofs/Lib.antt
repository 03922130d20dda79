pub mod Among
pub mod Cuts
pub mod LastLines
pub mod Lists
pub mod Matching
pub mod Once
