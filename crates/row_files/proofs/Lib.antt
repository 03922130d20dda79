pub mod CutLemmas
pub mod PlaceLemmas
pub mod FormLemmas
pub mod LineLemmas
pub mod FirstFaultLemmas
pub mod EachLemmas
pub mod RowLemmas
pub mod TableLemmas
