pub mod CommandLemmas
pub mod Lists
pub mod PatternFits
pub mod Sorted
pub mod Texts
pub mod Urls
pub mod Within
