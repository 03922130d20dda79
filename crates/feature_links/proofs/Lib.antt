pub mod ElementLemmas
pub mod LinkLemmas
pub mod GroupedLinks
pub mod NameLemmas
pub mod LinkOrderLemmas
pub mod StatusLemmas
pub mod SectionLemmas
