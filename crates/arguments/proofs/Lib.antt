mod Digits
mod Lines
mod Parses
pub mod Parsed
pub mod Writing
pub mod Refusing
mod Names
mod Apart
