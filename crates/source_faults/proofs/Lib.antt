pub mod FirstFault
pub mod LayoutOfLines
pub mod ValuesOfLines
pub mod Telling
