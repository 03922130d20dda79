pub mod Decimals
pub mod Each
pub mod Yields
pub mod Words
pub mod Building
