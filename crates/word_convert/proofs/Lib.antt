mod Read
pub mod Refused
pub mod Summed
pub mod Whole
mod ListingRead
pub mod Listed
mod DebuggingRead
pub mod Served
