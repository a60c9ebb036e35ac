pub mod Beginnings
pub mod Traces
pub mod Notes
pub mod Gathered
pub mod Texts
pub mod Lines
