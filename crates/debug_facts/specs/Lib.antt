pub mod Hidden
pub mod Rows
