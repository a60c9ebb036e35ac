mod Begun
pub mod Done
mod FilesAgain
mod Hits
mod LogRuns
mod Outputs
pub mod Stays
mod Writable
mod Sources
