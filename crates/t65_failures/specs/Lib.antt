pub mod Failures
pub mod Faulty
pub mod Steps
pub mod Texts
