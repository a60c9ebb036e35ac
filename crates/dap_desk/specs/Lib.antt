pub mod Breaks
pub mod Halts
pub mod Lines
pub mod Moves
pub mod Onward
