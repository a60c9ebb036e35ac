pub mod Lexemes
pub mod TermViews
pub mod LineViews
pub mod FewBytes
pub mod Contents
pub mod KeptLines
pub mod LineFaults
pub mod Spans
