mod Appended
pub mod Joined
mod NearNames
mod StepByStep
mod Told
