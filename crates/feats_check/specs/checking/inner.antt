-- Definitions that only contracts of private functions use.
pub mod Firsts
pub mod PlannedScenes
pub mod PlannedViews
pub mod RuleTexts
pub mod Rules
pub mod WidePlans
