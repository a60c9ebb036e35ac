pub mod Reserved
pub mod Steps
pub mod Named
pub mod PickedSteps
mod FaultySteps
pub mod Bytes
pub mod Images
pub mod Uses
