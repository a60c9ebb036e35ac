pub mod Names
pub mod Renaming
pub mod NamedText
