pub mod Gathering
pub mod Made
