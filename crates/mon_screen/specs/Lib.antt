pub mod Around
pub mod Cells
pub mod Limits
pub mod Marks
pub mod Stored
pub mod View
