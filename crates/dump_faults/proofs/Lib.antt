pub mod Below
pub mod ChangesBelow
pub mod Joined
pub mod Runs
