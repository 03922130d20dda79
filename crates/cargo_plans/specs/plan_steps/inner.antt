-- Definitions for private functions.
pub mod Stages
pub mod StepTables
