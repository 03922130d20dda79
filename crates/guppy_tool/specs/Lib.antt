pub mod Status
pub mod Faults
pub mod RowFileRefusals
pub mod Words
pub mod Answers
pub mod Run
pub mod Laws
