pub mod Warnings
pub mod Placed
pub mod Views
pub mod Uses
pub mod Reaches
pub mod Flow
pub mod Vectors
pub mod Brackets
