pub mod CommandLine
pub mod Strict
pub mod Seen
pub mod Told
pub mod Image
