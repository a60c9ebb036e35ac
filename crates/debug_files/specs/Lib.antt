pub mod Loads
pub mod Paths
pub mod Told
pub mod Changed
pub mod Loaded
pub mod Forms
pub mod Written
