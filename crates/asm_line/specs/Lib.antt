pub mod Lists
pub mod Pointers
pub mod Tokens
pub use Rattle.line_parts.specs.FewBytes
pub use Rattle.line_parts.specs.LineViews
