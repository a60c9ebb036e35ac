pub mod Found
pub mod Tables
pub mod Values
