pub mod Numbers
pub mod Lines
pub mod Calls
pub mod Forwards
pub mod Back
