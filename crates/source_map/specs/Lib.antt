pub mod DebugNames
pub mod Debugged
pub mod Functions
pub mod Lines
pub mod Names
