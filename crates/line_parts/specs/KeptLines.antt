-- The lines that are kept, seen as the definitions see them.
use Rattle.std.specs.Prelude.{ℕ, List, map}
use Rattle.line_parts.specs.Contents.{content_by}
use Rattle.line_parts.specs.LineViews.{statement_view}
use Rattle.line_parts.specs.declared.kept_line.KeptLine.{KeptLine}
use Rattle.model.specs.Layout.{PlacedLine}

-- A line in its place, with its number.
pub record NumberedLine : Type 0 where
  pub number : ℕ
  pub place : PlacedLine

abbrev pub numbered_line : ℕ → PlacedLine → NumberedLine
numbered_line number p = record { number = number; place = p }

abbrev pub placed_line_of : KeptLine → PlacedLine
placed_line_of k = record { address = k.address; content = content_by k.code (statement_view k.statement) }

abbrev pub numbered_line_of : KeptLine → NumberedLine
numbered_line_of k = record { number = k.number; place = placed_line_of k }

abbrev pub numbered_lines : List KeptLine → List NumberedLine
numbered_lines ks = map numbered_line_of ks
