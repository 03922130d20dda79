pub mod AnswerExists
pub mod BuildExists
mod BuiltStep
pub mod BytesAnswered
mod Closed
mod Declarations
mod DeclaredSpecs
mod DenyLemmas
pub mod Documents
pub mod DoubleNegation
mod EntryGrowth
mod EntryLinks
pub mod ExplanationExists
mod Flags
mod Grown
pub mod LabelsExist
pub mod LineRows
mod Members
mod Monotone
mod MoreBuilt
mod MoreEntries
mod MoreFeatures
mod MoreOn
mod MoreSteps
mod MoreWords
mod NoChoice
pub mod NoFaults
mod Numbered
mod OneOutcome
mod OnePlan
pub mod Platforms
mod Resolvers
pub mod Sections
mod Sentence
pub mod SequenceExists
mod Wider
mod WidestWords
pub mod Written
