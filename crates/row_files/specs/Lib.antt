pub mod Lines
pub mod Forms
pub mod RowOfLine
pub mod FirstFault
pub mod RowFile
pub mod WellFormed
pub mod RowLines
pub mod inner
