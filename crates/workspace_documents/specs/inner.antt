-- What private functions alone speak of.
pub mod Picks
pub mod Keys
pub mod Aliases
