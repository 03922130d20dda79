pub mod Accepted
pub mod ListedFilters
pub mod Platforms
pub mod PlatformViews
-- the definitions in the contracts, by crate
pub mod graph_platforms
pub use Rattle.digraphs.specs as digraphs
pub use Rattle.digraph_orders.specs as digraph_orders
pub use Rattle.guppy_support.specs as guppy_support
pub use Rattle.walk_engine.specs as walk_engine
pub use Rattle.walk_checks.specs as walk_checks
pub use Rattle.guppy_packages.specs as guppy_packages
pub use Rattle.feature_labels.specs as feature_labels
pub use Rattle.feature_links.specs as feature_links
pub use Rattle.feature_core.specs as feature_core
pub use Rattle.feature_graph.specs as feature_graph
