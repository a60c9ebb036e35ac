pub mod Spots
pub mod Calls
pub mod Locals
