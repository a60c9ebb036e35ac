pub mod Format
pub mod Changes
pub mod Steps
pub mod Runs
pub mod Start
pub mod Safe
pub mod Sent
pub mod Events
