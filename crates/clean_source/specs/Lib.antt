pub mod Cleaned
pub mod Plain
