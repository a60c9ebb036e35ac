mod Assembling
pub mod DigitLemmas
pub mod Ends
mod Joins
pub mod Machines
mod Spared
mod Starts
pub mod Unloaded
pub mod Unnamed
pub mod WarningsTold
pub mod Whole
