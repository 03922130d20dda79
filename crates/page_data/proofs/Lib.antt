pub mod ArrayLemmas
pub mod PageLemmas
