pub mod Debug
pub mod Mon
pub mod Run
pub mod Size
pub mod Trace
