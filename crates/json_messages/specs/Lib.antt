pub mod Bodies
pub mod Fields
pub mod Objects
pub mod ValueLists
pub mod Values
pub mod Messages
pub mod Sessions
pub mod Taken
