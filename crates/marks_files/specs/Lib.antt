pub mod Values
pub mod Fields
pub mod Marks
pub mod MarksFault
pub mod MarksFile
pub mod Views
