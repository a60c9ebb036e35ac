pub mod Ends
pub mod Lines
pub mod Listings
pub mod Transcripts
mod Found
