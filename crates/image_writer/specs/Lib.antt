pub mod Rows
pub mod ImageTexts
pub mod Window
