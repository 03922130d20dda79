pub mod Laws
pub mod Orders
pub mod Sequences
pub mod inner
