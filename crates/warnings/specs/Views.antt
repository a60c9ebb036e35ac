-- The crate's values, seen as the definitions see them.
use Rattle.std.specs.Prelude.{List, map}
use Rattle.line_parts.specs.Contents.{map_option}
use Rattle.std.specs.Borrow.{Bor}
use Rattle.line_parts.specs.Lexemes.{lexemes}
use Rattle.line_parts.specs.LineViews.{line_view}
use Rattle.line_parts.specs.declared.token.Token.{Token}
use Rattle.model.specs.Token.{Lexeme}
use Rattle.warnings.specs.Placed.{Placed}
use Rattle.warnings.specs.declared.placed_line.PlacedLine.{PlacedLine}

abbrev pub placed_view : PlacedLine → Placed
placed_view p = record {
  text = p.text.now;
  line = map_option line_view p.line;
  address = p.address;
  size = p.count;
  bracketed = p.bracketed;
}

abbrev pub placed_views : List PlacedLine → List Placed
placed_views ps = map placed_view ps

-- Tokens behind a reference.
abbrev pub tokens_view : Bor (List Token) → List Lexeme
tokens_view ts = lexemes ts.now
