pub mod Running
pub mod Ends
pub mod NoteLines
