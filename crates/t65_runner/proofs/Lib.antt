mod Counted
pub mod Firsts
mod Parts
mod Since
mod Waits
