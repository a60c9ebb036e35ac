pub mod Words
pub mod Groups
