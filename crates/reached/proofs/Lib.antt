pub mod Marked
pub mod Searching
pub mod Behind
pub mod LettersFound
