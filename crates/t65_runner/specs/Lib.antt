pub mod Counting
pub mod Interrupts
pub mod Parts
pub mod Passes
pub mod RangeValues
pub mod Requests
pub mod Start
