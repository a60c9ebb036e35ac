pub mod Order
pub mod More
pub mod Raised
pub mod Passes
pub mod Walked
