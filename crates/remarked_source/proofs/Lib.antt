pub mod Notes
pub mod Columns
pub mod Lines
pub mod StringLines
pub mod Finding
pub mod SplitTables
pub mod Chosen
pub mod Cuts
