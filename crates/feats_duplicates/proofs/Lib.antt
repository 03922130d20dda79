pub mod Ascending
pub mod JoinedLemmas
pub mod Lists
pub mod NameLemmas
pub mod Sets
