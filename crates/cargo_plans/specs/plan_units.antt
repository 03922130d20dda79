pub mod Commands
pub mod Lacking
pub mod UnitViews
pub mod Units
