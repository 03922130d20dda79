pub mod Walks
pub mod Explanations
pub mod Laws
pub mod inner
