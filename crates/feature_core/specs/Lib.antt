pub mod Present
pub mod Ways
pub mod Errors
pub mod Built
pub mod BuiltOnce
pub mod Offers
pub mod Defaults
pub mod inner
pub use Rattle.feature_edges.specs.Nodes as Nodes
pub use Rattle.feature_edges.specs.Candidates as Candidates
pub use Rattle.feature_edges.specs.Edges as Edges
pub use Rattle.feature_edges.specs.Pairs as Pairs
pub use Rattle.feature_edges.specs.Choices as Choices
pub use Rattle.feature_edges.specs.Warnings as Warnings
