pub mod Document
pub mod Rows
pub mod Warnings
pub mod Run
pub mod inner
