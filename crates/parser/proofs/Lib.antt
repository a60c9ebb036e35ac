pub mod Derived
pub mod Grammar
pub mod Literals
pub mod Longest
pub mod ParserTurn
pub mod Whole
