pub mod BlockSteps
pub mod LineSteps
pub mod MarkSteps
