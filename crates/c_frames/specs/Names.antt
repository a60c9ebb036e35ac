-- The names of routines. They stand in the code, in the table `ROUTINES`. Source: cc65 2.19,
-- `libsrc`.
use Rattle.std.specs.Prelude.{ℕ, bytes_eq, if◌then◌else◌, List, [], ◌∷◌, map, Option, Some, None}
use Rattle.std.specs.Borrow.{Bor}
use Rattle.c_frames.specs.declared.names.TheConstants.{ROUTINES}
use Rattle.c_frames.specs.declared.routines.Effect.{Effect}

abbrev pub Row : Type 0
Row = List ℕ × Effect

abbrev pub row_view : Bor (List ℕ) × Effect → Row
row_view row = (row.0.now, row.1)

unfoldable pub routine_names : List Row
routine_names = map (λ row. (row.0.now, row.1)) ROUTINES

-- The first of a name counts.
abbrev pub find_named : List ℕ → List Row → Option Effect
find_named name [] = None
find_named name (row ∷ rows) = if bytes_eq name row.0 then Some row.1 else find_named name rows

abbrev pub effect_named : List ℕ → Option Effect
effect_named name = find_named name routine_names
