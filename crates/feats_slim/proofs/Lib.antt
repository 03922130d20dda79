pub mod Lists
pub mod SortedSlims
pub mod Tokens
