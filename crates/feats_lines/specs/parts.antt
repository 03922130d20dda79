pub mod Members
pub mod Tables
pub mod Views
