-- What stands at an address of a program by its debug information is what two searches of all rows
-- find there.
use Rattle.std.proofs.Common.{◌≡◌, ◌∙◌, ℕ, zero, suc, ◌+◌, ◌<◌, ◌≤◌, ◌++◌, Bool, true, false, List, [], ◌∷◌, Option, Some, None, refl, sym, ap, subst, arith, inl, inr}
use Rattle.std.specs.Prelude.{◌==◌, if◌then◌else◌}
use Rattle.std.specs.Option.{option_or, option_to_list}
use Rattle.std.proofs.lemmas.Bool.{cases_eq, eq-eqb, ne_eqb}
use Rattle.debug_records.specs.Rows.{begun_at, clear_rows, rows_of, shown_at}
use Rattle.debug_records.specs.Info.{Info}
use Rattle.debug_records.specs.declared.row.Row.{Row as DebugRow}
use Rattle.source_map.specs.Debugged.{Program, debug_places, piece, piece_at, piece_of, pieces_from, pieces_of}
use Rattle.source_map.specs.Lines.{SourceView, row_at}
use Rattle.source_map.specs.declared.rows.Row.{Row}

-- ---- one address before others

piece_here : (program : Program) (address : ℕ) (begun shown : Option DebugRow) (rest : List Row) → row_at rest address ≡ None
    → row_at (option_to_list (piece_of program address begun shown) ++ rest) address ≡ piece_of program address begun shown
piece_here program address None shown rest e = e
piece_here program address (Some begun) None rest e = e
piece_here program address (Some begun) (Some shown) rest e =
    ap (λ b. if b then Some (piece program address begun shown) else row_at rest address) (eq-eqb address address refl)

piece_elsewhere : (program : Program) (at address : ℕ) (begun shown : Option DebugRow) (rest : List Row) → (at ≡ address → ⊥)
    → row_at (option_to_list (piece_of program at begun shown) ++ rest) address ≡ row_at rest address
piece_elsewhere program at address None shown rest other = refl
piece_elsewhere program at address (Some begun) None rest other = refl
piece_elsewhere program at address (Some begun) (Some shown) rest other =
    ap (λ b. if b then Some (piece program at begun shown) else row_at rest address) (ne_eqb at address other)

none_below : (program : Program) (rows : List DebugRow) (at count address : ℕ) → address < at → row_at (pieces_from program rows at count) address ≡ None
unfolding pieces_from piece_at
none_below program rows at zero address h = refl
none_below program rows at (suc count) address h =
    piece_elsewhere program at address (begun_at rows at) (shown_at rows at) (pieces_from program rows (at + 1) count) (λ e. omega (arith, e, h))
    ∙ none_below program rows (at + 1) count address (omega (arith, h))

found_from : (program : Program) (rows : List DebugRow) (at count address : ℕ) → at ≤ address → address < at + count
    → row_at (pieces_from program rows at count) address ≡ piece_at program rows address
unfolding pieces_from piece_at
found_from program rows at zero address h k = absurd (omega (arith, h, k))
found_from program rows at (suc count) address h k = elim (cases_eq at address) [
  | inl same ↦ subst (λ a. row_at (pieces_from program rows at (suc count)) a ≡ piece_at program rows a) same
      (piece_here program at (begun_at rows at) (shown_at rows at) (pieces_from program rows (at + 1) count)
      (none_below program rows (at + 1) count at (omega arith)))
  | inr other ↦ piece_elsewhere program at address (begun_at rows at) (shown_at rows at) (pieces_from program rows (at + 1) count) other
      ∙ found_from program rows (at + 1) count address (omega (arith, h, other)) (omega (arith, k))
]

-- For each address: the narrowest row that begins there, with the line of the row that is shown there.
pub row_by_search : (program : Program) (info : Info) (sources : List SourceView) (address : ℕ) → address < 65536
    → row_at (debug_places program info sources).lines address ≡ piece_at program (clear_rows info (rows_of info)) address
row_by_search program info sources address h = found_from program (clear_rows info (rows_of info)) 0 65536 address (omega arith) (omega (arith, h))
