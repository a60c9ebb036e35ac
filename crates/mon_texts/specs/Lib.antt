pub mod Registers
pub mod Pushed
pub mod Stack
pub mod Stops
pub mod Memory
pub mod Slips
pub mod Help
pub mod Screen
