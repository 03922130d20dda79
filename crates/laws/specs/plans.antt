pub mod EveryChoice
pub mod Growth
pub mod Laws
pub mod NoChoice
pub mod Sentence
pub mod Widening
