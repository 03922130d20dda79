pub mod Bits
pub mod Graph
pub mod Laws
pub mod NextMembers
pub mod PackedRows
pub mod Paths
pub mod Rows
pub mod inner
