pub mod Lists
pub mod MarkLemmas
pub mod Sorted
pub mod UnusedLemmas
