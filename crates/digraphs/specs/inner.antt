pub mod EdgeColumns
pub mod Filling
pub mod Words
