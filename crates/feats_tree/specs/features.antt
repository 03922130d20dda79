pub mod Dots
pub mod Links
pub mod Roots
pub mod Titles
pub mod Trees
pub mod inner
