pub mod Lines
pub mod Outputs
pub mod Port
pub mod Steps
pub mod Turning
pub mod Gliding
pub mod Growing
