pub mod RunLines
pub mod Strays
pub mod SourceLines
pub mod Reasons
pub mod RunTexts
pub mod BackLines
pub mod BackTexts
