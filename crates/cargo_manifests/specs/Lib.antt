pub mod EditViews
pub mod Edits
pub mod inner
pub mod inherited
pub mod resolvers
