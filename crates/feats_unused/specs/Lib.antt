pub mod Dead
pub mod Lines
pub mod Objects
pub mod Requests
pub mod Shown
pub mod Unused
pub mod Used
pub mod Views
pub mod inner
pub use Rattle.guppy_packages.specs as guppy_packages
