pub mod Notes
pub mod Blocks
