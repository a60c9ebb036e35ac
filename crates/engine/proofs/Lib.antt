pub mod Feeds
pub mod Outcomes
pub mod Refused
pub mod Serving
pub mod Said
pub mod TapeReads
pub mod Assembling
