pub mod Fronts
pub mod Again
pub mod Fed
pub mod Sizes
pub mod Tapes
pub mod EndRecords
