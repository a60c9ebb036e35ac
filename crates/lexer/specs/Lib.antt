pub mod Front
pub mod Lexing
pub mod Stray
