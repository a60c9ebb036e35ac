pub mod Csv
pub mod Junit
pub mod Lines
pub mod Reports
pub mod Telling
