pub mod ColumnSteps
pub mod TextSteps
