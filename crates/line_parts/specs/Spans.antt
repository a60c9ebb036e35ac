-- Where lines stand, seen as the definitions see it.
use Rattle.std.specs.Prelude.{ℕ, List, map}
use Rattle.line_parts.specs.declared.span.Span.{Span}

-- A line's address, and how many bytes it has.
abbrev pub pair_of : Span → ℕ × ℕ
pair_of span = (span.address, span.count)

abbrev pub pairs_of : List Span → List (ℕ × ℕ)
pairs_of spans = map pair_of spans
