pub mod Ends
pub mod Laid
pub mod Rows
pub mod Imaged
