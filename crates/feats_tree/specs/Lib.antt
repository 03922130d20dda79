pub mod packages
pub mod features
pub mod dots
pub mod trees
