pub mod Arrays
pub mod Pages
