mod WithNames
pub mod Ran
pub mod Sites
