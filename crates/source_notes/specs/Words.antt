-- Words put together. Source: mos65.
use Rattle.std.specs.Prelude.{ℕ, List}
use Rattle.std.specs.Borrow.{Bor}
use Rattle.std.specs.List.{flat_map}

-- Pieces of text, one after another.
abbrev pub concat : List (Bor (List ℕ)) → List ℕ
concat pieces = flat_map (λ piece. piece.now) pieces
