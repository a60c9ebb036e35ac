pub mod Turning
pub mod Stepping
pub mod Recording
pub mod Sending
pub mod Whole
pub mod Cells
pub mod LoadedBytes
