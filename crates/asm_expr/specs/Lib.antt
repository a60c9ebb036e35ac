pub use Rattle.line_parts.specs.Lexemes
pub use Rattle.line_parts.specs.TermViews
