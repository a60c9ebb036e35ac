mod Chains
pub mod Stepped
mod Rows
mod Course
mod Shown
