pub mod Access
pub mod Footprint
pub mod Looking
pub mod Moments
pub mod Tallies
pub mod Writing
