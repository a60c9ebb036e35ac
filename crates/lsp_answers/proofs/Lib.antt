mod AboveSteps
pub mod Behind
pub mod DefinedSteps
pub mod FlatSteps
pub mod Marking
mod SaidSteps
mod SearchSteps
mod StillFaulty
