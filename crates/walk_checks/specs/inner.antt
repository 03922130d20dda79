pub mod Tests
pub mod Backwards
pub mod Waiting
