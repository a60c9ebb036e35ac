pub mod Adapter
pub mod Attended
pub mod CommandLine
pub mod Sent
pub mod Served
pub mod Slices
