-- The cells of addresses, one address after another.
use Rattle.std.proofs.Common.{◌≡◌, ◌∙◌, ℕ, ◌+◌, ◌-◌, ◌<◌, ◌++◌, List, [], ◌∷◌, Option, None, length, get_or, sym, ap, subst, arith, inl, inr, length-append}
use Rattle.std.proofs.lemmas.Bool.{cases_lt}
use Rattle.std.proofs.Math.ListN.{get_or-append}
use Rattle.std.proofs.Math.Seq.{get_or-append_seam}
use Rattle.debug_records.specs.Info.{Table, record_at}
use Rattle.debug_records.specs.Rows.{IsTable, shown_at}
use Rattle.debug_records.specs.declared.row.Row.{Row}
use Rattle.debug_facts.specs.Hidden.{AreCells, AreHiddenAmong, hidden_cell}

pub none_made : (found shown : Table Row) (cells : List (Option ℕ)) → cells ≡ [] → AreCells found shown 0 cells
none_made found shown cells e = record {
  size = ap (λ (c : List (Option ℕ)). length c) e;
  each = λ address below. absurd (omega (arith, below));
}

last_cell : (cells : List (Option ℕ)) (cell : Option ℕ) (address : ℕ) → address ≡ length cells → get_or (cells ++ cell ∷ []) address None ≡ cell
last_cell cells cell address e = ap (λ (a : ℕ). get_or (cells ++ cell ∷ []) a None) e ∙ get_or-append_seam cells cell [] None

pub cell_made : (found shown : Table Row) (cells new : List (Option ℕ)) (count : ℕ)
    → new ≡ cells ++ hidden_cell (record_at found count) (record_at shown count) ∷ []
    → AreCells found shown count cells → AreCells found shown (count + 1) new
cell_made found shown cells new count made so_far =
    let cell : Option ℕ = hidden_cell (record_at found count) (record_at shown count) in
    record {
      size = ap (λ (c : List (Option ℕ)). length c) made ∙ (length-append cells (cell ∷ []) ∙ ap (λ (n : ℕ). n + 1) so_far.size);
      each = λ address below. ap (λ (c : List (Option ℕ)). get_or c address None) made ∙ elim (cases_lt address count) [
        | inl before ↦ get_or-append cells (cell ∷ []) None address (omega (arith, before, so_far.size)) ∙ so_far.each address before
        | inr at ↦
            let here : address ≡ count = omega (arith, below, at) in
            last_cell cells cell address (omega (arith, here, so_far.size))
            ∙ sym (ap (λ (a : ℕ). hidden_cell (record_at found a) (record_at shown a)) here)
      ];
    }

pub all_made : (rows clear : List Row) (found shown : Table Row) (cells : List (Option ℕ))
    → IsTable found (shown_at rows) → IsTable shown (shown_at clear)
    → AreCells found shown 65536 cells → AreHiddenAmong rows clear cells
all_made rows clear found shown cells all told made = record {
  size = made.size;
  each = λ address below. made.each address below
      ∙ (ap (λ (r : Option Row). hidden_cell r (record_at shown address)) (all.rows address below)
      ∙ ap (hidden_cell (shown_at rows address)) (told.rows address below));
}

pub same_tables : (found shown first second : Table Row) (cells : List (Option ℕ))
    → AreCells first second 65536 cells → first ≡ found → second ≡ shown → AreCells found shown 65536 cells
same_tables found shown first second cells made e f =
    subst (λ (t : Table Row). AreCells found t 65536 cells) f (subst (λ (t : Table Row). AreCells t second 65536 cells) e made)

pub same_rows : (rows clear first second : List Row) (cells : List (Option ℕ))
    → AreHiddenAmong first second cells → first ≡ rows → second ≡ clear → AreHiddenAmong rows clear cells
same_rows rows clear first second cells hidden e f =
    subst (λ (r : List Row). AreHiddenAmong rows r cells) f (subst (λ (r : List Row). AreHiddenAmong r second cells) e hidden)
