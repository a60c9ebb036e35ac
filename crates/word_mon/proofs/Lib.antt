pub mod Again
pub mod Filed
pub mod LinesServed
pub mod Pieces
mod Ends
mod Starts
