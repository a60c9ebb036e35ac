pub mod Course
pub mod EventTexts
pub mod Events
pub mod Faults
