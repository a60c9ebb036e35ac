pub mod StopLines
pub mod StopTexts
pub mod ByteLines
pub mod Names
pub mod ChangeTexts
pub mod FlagLines
pub mod Displays
