pub mod Answers
pub mod Asked
pub mod CommandLines
pub mod Files
pub mod Instructions
pub mod Lines
pub mod Meanings
pub mod Records
