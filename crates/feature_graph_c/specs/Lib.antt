pub mod requests
pub mod answers
pub mod binary
pub mod records
pub mod c
