pub mod Declarations
pub mod Features
pub mod Numbers
pub mod Objects
pub mod Reports
pub mod inner
