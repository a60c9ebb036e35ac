mod Cells
mod Entries
mod Finding
mod Following
mod Joined
mod Kept
mod Listing
mod NamedLocals
mod Locating
mod Lossy
mod Numbered
pub mod Paging
mod Symbols
mod Watching
mod WhereFrames
