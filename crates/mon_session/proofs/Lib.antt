pub mod Rings
pub mod Steps
