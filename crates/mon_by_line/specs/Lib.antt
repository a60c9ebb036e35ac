pub mod LineRuns
pub mod ByLine
