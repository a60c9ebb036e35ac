pub mod ImageNames
pub mod Labels
pub mod Meanings
pub mod NamesFile
pub mod Views
