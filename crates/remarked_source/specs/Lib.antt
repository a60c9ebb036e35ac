pub mod Rows
pub mod Splits
pub mod Strings
pub mod RemarkedText
pub mod Views
