pub mod BeginLemmas
pub mod BitLemmas
pub mod ColumnLemmas
pub mod EqualLemmas
pub mod FaultLemmas
pub mod PackedLemmas
pub mod SetLemmas
