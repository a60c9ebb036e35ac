pub mod Sites
pub mod SourceLines
pub mod Words
pub mod Steps
pub mod Findings
pub mod Counts
pub mod Records
