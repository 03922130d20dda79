pub mod ChainLemmas
pub mod LinkLemmas
pub mod ListLemmas
pub mod NearestLemmas
pub mod RouteLemmas
pub mod SearchLemmas
