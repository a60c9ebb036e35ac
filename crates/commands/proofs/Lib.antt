pub mod Decimal
pub mod Inputs
pub mod Patches
pub mod Spaces
pub mod Texts
pub mod Rows
