pub mod FaultNames
pub mod Feeding
pub mod Outcome
pub mod Refusals
pub mod TapeReads
