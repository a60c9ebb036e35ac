pub mod Below
pub mod CompareWord
pub mod DifferenceRows
pub mod DumpText
pub mod PartsBelow
pub mod Rows
pub mod Starts
pub mod TextOfRows
