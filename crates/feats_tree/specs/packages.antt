pub mod Dots
pub mod Titles
pub mod Trees
