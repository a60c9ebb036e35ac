pub mod Given
pub mod Line
pub mod Playing
pub mod Stretches
pub mod Taking
pub mod Turns
pub mod Written
