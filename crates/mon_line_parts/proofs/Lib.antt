pub mod Begun
pub mod Capped
pub mod Sums
