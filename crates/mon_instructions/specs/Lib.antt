pub mod Characters
pub mod Places
pub mod Instructions
pub mod Made
pub mod Listed
pub mod Stores
