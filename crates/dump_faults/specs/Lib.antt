pub mod Changes
pub mod Faults
pub mod Lines
pub mod Regions
