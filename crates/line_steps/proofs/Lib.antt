pub mod Counted
pub mod Steps
pub mod Calling
pub mod LineRuns
pub mod Ways
pub mod Returns
pub mod LinesBack
pub mod Examples
