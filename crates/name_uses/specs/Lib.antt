pub mod Uses
pub mod Grammar
pub mod Registers
pub mod Views
pub mod Picked
pub mod Places
pub mod Faulty
pub mod Renaming
