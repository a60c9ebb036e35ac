pub mod Asked
pub mod CommandLine
pub mod Covered
pub mod Tested
pub mod Told
pub mod Views
