pub mod Changed
pub mod Flag
pub mod Forms
pub mod Letters
