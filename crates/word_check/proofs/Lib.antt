pub mod Ends
pub mod OneMore
pub mod Read
