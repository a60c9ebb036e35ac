pub mod RawBytes
pub mod Records
pub mod Going
pub mod Parts
pub mod Rows
pub mod Written
