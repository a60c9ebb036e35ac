pub mod Bytes
pub mod Entries
pub mod Port
pub mod Zeros
