pub mod Parts
pub mod PartTexts
pub mod Runs
pub mod FactReading
pub mod Reading
pub mod Positions
pub mod LineReading
pub mod Walk
