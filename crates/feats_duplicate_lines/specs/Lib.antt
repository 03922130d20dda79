pub mod Lines
pub mod Objects
pub mod Shown
pub mod Views
pub use Rattle.feats_duplicates.specs as feats_duplicates
