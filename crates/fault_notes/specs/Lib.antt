pub mod Blocks
pub mod Given
pub mod Marks
pub mod Near
