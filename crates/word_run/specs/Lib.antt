pub mod Known
pub mod Places
pub mod Requests
pub mod Runs
pub mod Statuses
pub mod Told
