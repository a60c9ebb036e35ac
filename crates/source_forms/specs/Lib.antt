pub mod Rows
pub mod Runs
pub mod Undocumented
pub mod Pieces
pub mod Labels
