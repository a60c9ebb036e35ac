pub mod Fronts
pub mod Runs
pub mod Slices
pub mod Steps
pub mod Strays
