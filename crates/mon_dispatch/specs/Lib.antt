pub mod Lines
pub mod LineTexts
pub mod LookTexts
pub mod Forms
