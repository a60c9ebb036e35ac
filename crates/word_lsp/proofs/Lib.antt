pub mod Chained
pub mod Ended
pub mod Filtered
pub mod Nothing
pub mod Refused
pub mod Small
pub mod Told
pub mod Written
