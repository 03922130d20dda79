pub mod Links
pub mod SpotLinks
pub mod UnitLinks
pub mod inner
