pub mod Checked
pub mod CommandLine
pub mod Found
pub mod Files
