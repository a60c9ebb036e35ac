pub mod Held
pub mod Pages
pub mod Saved
pub mod Own
