pub mod Lists
pub mod ScriptLemmas
pub mod StageLemmas
pub mod StepVisits
pub mod UnitLemmas
