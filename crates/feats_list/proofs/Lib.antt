pub mod CountLemmas
pub mod Once
