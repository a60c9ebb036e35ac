pub mod FaultWords
pub mod StringText
pub mod ValueText
pub mod Visible
