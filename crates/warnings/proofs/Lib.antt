pub mod Looking
pub mod Placing
pub mod Using
pub mod Reaching
pub mod Bracketing
pub mod Leading
