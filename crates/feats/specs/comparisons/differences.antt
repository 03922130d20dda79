pub mod Answers
pub mod Builds
pub mod Forms
pub mod LastSteps
pub mod Shown
pub mod Views
pub mod Whys
