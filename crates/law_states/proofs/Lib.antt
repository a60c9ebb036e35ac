pub mod Numbers
pub mod Buses
pub mod Effects
pub mod Steps
pub mod Kept
pub mod Held
