pub mod Nodes
pub mod DefaultNodes
pub mod Candidates
pub mod Edges
pub mod EdgeEnds
pub mod Pairs
pub mod EdgesOnce
pub mod Choices
pub mod Warnings
pub mod inner
pub use Rattle.guppy_packages.specs as guppy_packages
pub use Rattle.feature_labels.specs as feature_labels
pub use Rattle.feature_links.specs as feature_links
