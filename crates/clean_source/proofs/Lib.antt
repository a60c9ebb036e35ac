pub mod Shown
pub mod Segments
pub mod Plain
pub mod Kept
pub mod Twice
pub mod Lines
pub mod Texts
