pub mod Cursors
pub mod Search
