pub mod Bytes
pub mod NameStarts
pub mod Told
pub mod Undebugged
pub mod Named
