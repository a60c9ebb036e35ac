-- Lines of a text, one after another.
use Rattle.std.proofs.Common.{◌≡◌, ◌∙◌, ◌<◌, ◌≤◌, ℕ, zero, suc, ◌+◌, List, [], ◌∷◌, ◌++◌, drop, get_or, length, refl, sym, ap, arith, append_assoc, append-nil}
use Rattle.std.proofs.Math.Seq.{drop-cons}
use Rattle.std.specs.List.{flat_map}
use Rattle.mon_screen.specs.Cells.{behind_line, behind_lines, beside, ended, ending, line_count, row, written}

-- One line is behind them.
pub one_behind : (n m : ℕ) (text : List ℕ) → n ≡ m + 1
    → behind_lines n text ≡ behind_lines m (behind_line text)
unfolding behind_lines
one_behind zero m text e = absurd (omega (arith, e))
one_behind (suc n) m text e =
    let same : n ≡ m = omega (arith, e) in ap (λ k. behind_lines k (behind_line text)) same

pub none_behind : (n : ℕ) (text : List ℕ) → n ≡ 0 → behind_lines n text ≡ text
unfolding behind_lines
none_behind zero text e = refl
none_behind (suc n) text e = absurd (omega (arith, e))

-- One more byte is counted.
count_cons : (b : ℕ) (text : List ℕ) → line_count (b ∷ text) ≡ ending b + line_count text
unfolding line_count
count_cons b text = refl

pub next_counted : (text : List ℕ) (i count more whole : ℕ) → i < length text
    → more ≡ ending (get_or text i 0) → count + line_count (drop i text) ≡ whole
    → count + more + line_count (drop (i + 1) text) ≡ whole
next_counted text i count more whole within e before =
    let after : suc i ≡ i + 1 = omega arith in
    let there : line_count (drop i text) ≡ ending (get_or text i 0) + line_count (drop (i + 1) text)
    = ap line_count (drop-cons text i 0 within)
    ∙ count_cons (get_or text i 0) (drop (suc i) text)
    ∙ ap (λ k. ending (get_or text i 0) + line_count (drop k text)) after in
    omega (arith, there, e, before)

none_counted : (text : List ℕ) (i : ℕ) → length text ≤ i → line_count (drop i text) ≡ 0
unfolding line_count
none_counted [] zero h = refl
none_counted [] (suc i) h = refl
none_counted (b ∷ text) zero h = absurd (omega arith)
none_counted (b ∷ text) (suc i) h = none_counted text i (omega arith)

pub all_counted : (text : List ℕ) (i count whole : ℕ) → length text ≤ i
    → count + line_count (drop i text) ≡ whole → count ≡ whole
all_counted text i count whole past before =
    let none = none_counted text i past in omega (arith, none, before)

-- One row is written.
first_row : (n m left right : ℕ) (one other : List ℕ) → n ≡ m + 1
    → written (beside n left right one other)
    ≡ ended (row left right one other)
    ++ written (beside m left right (behind_line one) (behind_line other))
unfolding beside written
first_row zero m left right one other e = absurd (omega (arith, e))
first_row (suc n) m left right one other e =
    let same : n ≡ m = omega (arith, e) in
    ap (λ k. ended (row left right one other)
    ++ flat_map ended (beside k left right (behind_line one) (behind_line other))) same

pub row_written : (n m left right : ℕ) (one other first second text next whole : List ℕ)
    → n ≡ m + 1 → next ≡ text ++ ended (row left right one other)
    → first ≡ behind_line one → second ≡ behind_line other
    → text ++ written (beside n left right one other) ≡ whole
    → next ++ written (beside m left right first second) ≡ whole
row_written n m left right one other first second text next whole e grown front behind before =
    (λ i. grown i ++ written (beside m left right (front i) (behind i)))
    ∙ append_assoc text (ended (row left right one other)) _
    ∙ sym (ap (λ l. text ++ l) (first_row n m left right one other e)) ∙ before

no_rows : (n left right : ℕ) (one other : List ℕ) → n ≡ 0
    → written (beside n left right one other) ≡ []
unfolding beside written
no_rows zero left right one other e = refl
no_rows (suc n) left right one other e = absurd (omega (arith, e))

pub all_written : (n left right : ℕ) (one other text whole : List ℕ) → n ≡ 0
    → text ++ written (beside n left right one other) ≡ whole → text ≡ whole
all_written n left right one other text whole e before =
    sym (append-nil text) ∙ sym (ap (λ l. text ++ l) (no_rows n left right one other e)) ∙ before
