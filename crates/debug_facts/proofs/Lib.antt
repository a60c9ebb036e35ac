pub mod Cells
pub mod Filed
