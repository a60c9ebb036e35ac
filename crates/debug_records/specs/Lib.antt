pub mod Faults
pub mod Fields
pub mod Info
pub mod Numbers
pub mod Reading
pub mod Records
pub mod Rows
pub mod Views
