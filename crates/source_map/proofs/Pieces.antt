-- What stands at each address, one address after another.
use Rattle.std.proofs.Common.{◌≡◌, ◌∙◌, ℕ, zero, suc, ◌+◌, ◌-◌, ◌<◌, ◌≤◌, ◌++◌, List, [], Option, Some, None, refl, sym, ap, arith, append_assoc, append-nil}
use Rattle.std.specs.Option.{option_to_list}
use Rattle.debug_records.specs.Info.{record_at}
use Rattle.debug_records.specs.Rows.{IsTable, begun_at, shown_at}
use Rattle.debug_records.specs.declared.row.Row.{Row as DebugRow}
use Rattle.source_map.specs.Debugged.{Program, piece_at, piece_of, pieces_from, pieces_of}
use Rattle.source_map.specs.declared.rows.Row.{Row}

-- What was made, and what is left from an address on, are all pieces.
pub record Left (program : Program) (rows : List DebugRow) (made : List Row) (address : ℕ) : Type 0 where
  pub all : made ++ pieces_from program rows address (65536 - address) ≡ pieces_of program rows

pub none_made : (program : Program) (rows : List DebugRow) (made : List Row) → made ≡ [] → Left program rows made 0
none_made program rows made e = record {
  all = ap (λ (m : List Row). m ++ pieces_from program rows 0 65536) e;
}

one_piece : (program : Program) (rows : List DebugRow) (address left count : ℕ) → left ≡ suc count
    → pieces_from program rows address left ≡ option_to_list (piece_at program rows address) ++ pieces_from program rows (address + 1) count
unfolding pieces_from
one_piece program rows address left count e = ap (pieces_from program rows address) e

by_tables : (program : Program) (rows : List DebugRow) (begun shown : List (Option DebugRow)) (address : ℕ) → address < 65536
    → IsTable begun (begun_at rows) → IsTable shown (shown_at rows)
    → piece_of program address (record_at begun address) (record_at shown address) ≡ piece_at program rows address
unfolding piece_at
by_tables program rows begun shown address h b s =
    ap (λ o. piece_of program address o (record_at shown address)) (b.rows address h)
    ∙ ap (piece_of program address (begun_at rows address)) (s.rows address h)

pub piece_made : (program : Program) (rows : List DebugRow) (begun shown : List (Option DebugRow)) (made new : List Row) (address : ℕ) → address < 65536
    → IsTable begun (begun_at rows) → IsTable shown (shown_at rows)
    → new ≡ made ++ option_to_list (piece_of program address (record_at begun address) (record_at shown address))
    → Left program rows made address → Left program rows new (address + 1)
piece_made program rows begun shown made new address h b s e l =
    let here = option_to_list (piece_at program rows address) in
    let rest = pieces_from program rows (address + 1) (65536 - (address + 1)) in
    let said : new ≡ made ++ here = e ∙ ap (λ (o : Option Row). made ++ option_to_list o) (by_tables program rows begun shown address h b s) in
    record {
      all = ap (λ (m : List Row). m ++ rest) said ∙ (append_assoc made here rest
          ∙ (sym (ap (λ (ps : List Row). made ++ ps) (one_piece program rows address (65536 - address) (65536 - (address + 1)) (omega (arith, h)))) ∙ l.all));
    }

none_left : (program : Program) (rows : List DebugRow) (made whole : List Row) (address count : ℕ) → count ≡ 0
    → made ++ pieces_from program rows address count ≡ whole → made ≡ whole
unfolding pieces_from
none_left program rows made whole address count none e =
    sym (append-nil made) ∙ (sym (ap (λ (n : ℕ). made ++ pieces_from program rows address n) none) ∙ e)

pub all_pieces : (program : Program) (rows : List DebugRow) (made : List Row) (address : ℕ) → address ≡ 65536 → Left program rows made address
    → made ≡ pieces_of program rows
all_pieces program rows made address e l = none_left program rows made (pieces_of program rows) address (65536 - address) (omega (arith, e)) l.all
