pub mod Asked
pub mod CommandLine
pub mod Found
pub mod Images
pub mod Plain
pub mod Texts
pub mod Views
