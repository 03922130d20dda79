pub mod Numbers
pub mod Faults
pub mod Gives
