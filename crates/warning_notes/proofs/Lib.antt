pub mod KindWords
pub mod Told
