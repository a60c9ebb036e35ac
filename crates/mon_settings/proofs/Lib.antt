mod Stopped
pub mod Made
mod Naming
mod BreakList
