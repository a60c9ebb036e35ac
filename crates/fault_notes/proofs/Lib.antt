pub mod GivenSteps
pub mod Marked
pub mod Prefixes
pub mod Told
