pub mod CommandLine
pub mod Asked
pub mod Notes
pub mod Done
