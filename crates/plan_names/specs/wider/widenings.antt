pub mod Findings
pub mod Widenings
