pub mod Calm
pub mod PlainSteps
pub mod Pushing
pub mod Reading
