pub mod Topics
pub mod Help
pub mod Reading
pub mod SourceLines
pub mod Values
