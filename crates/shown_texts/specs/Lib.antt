pub mod Controls
pub mod Escapes
pub mod Plain
pub mod Shown
pub mod inner
