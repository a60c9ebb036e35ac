pub mod Reached
pub mod Search
