pub mod Inputs
pub mod Rows
pub mod Writing
pub mod Lists
