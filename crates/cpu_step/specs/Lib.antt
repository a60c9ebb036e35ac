pub mod Access
pub mod Plain
pub mod PlainSteps
pub mod Quick
pub mod Stored
