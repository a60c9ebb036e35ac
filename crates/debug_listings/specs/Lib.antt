pub mod Lines
pub mod Listing
pub mod Reading
pub mod Report
pub mod ReportLines
pub mod Texts
