pub mod Marks
pub mod PartLists
pub mod Related
pub mod ShownLists
pub mod WhyLists
