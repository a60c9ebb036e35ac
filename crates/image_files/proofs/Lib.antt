pub mod Images
pub mod Ended
pub mod Ranges
pub mod Filled
mod Begun
pub mod Unions
