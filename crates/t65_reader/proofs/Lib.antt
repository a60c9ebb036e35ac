mod Items
mod Pieces
mod Routines
mod Rows
pub mod Passed
