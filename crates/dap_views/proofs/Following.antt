-- Rows one after another.
use Rattle.std.proofs.Common.{◌≡◌, ◌∙◌, ℕ, zero, suc, ◌+◌, ◌-◌, ◌<◌, ◌≤◌, Bool, true, false, if◌then◌else◌, List, [], ◌∷◌, ◌++◌, sym, ap, arith, refl, append_assoc, append-nil}
use Rattle.std.proofs.lemmas.Bool.{le-ltb, lt-ltb}
use Rattle.std.specs.Prelude.{codes, decimal, min, nat_lt}
use Rattle.dap_messages.specs.declared.counting.Counting.{Counting}
use Rattle.dap_messages.specs.SeenAnswers.{SeenItem, no_instruction}
use Rattle.dap_views.specs.declared.source.FilePath.{FilePath}
use Rattle.dap_views.specs.Rows.{behind_row, first, found, lacking_rows, next_row, row_at, row_len, row_of, row_shown, rows, rows_around, rows_on, rows_to}
use Rattle.mon_session.specs.declared.mon_state.MonState.{MonState}

-- ---- where a row begins that is some rows on

pub on_more : (mon : MonState) (end n m at next whole : ℕ) → n ≡ suc m → next ≡ next_row mon end at → rows_on mon end n at ≡ whole
    → rows_on mon end m next ≡ whole
unfolding rows_on
on_more mon end n m at next whole e is so_far = ap (rows_on mon end m) is ∙ sym (ap (λ k. rows_on mon end k at) e) ∙ so_far

pub on_done : (mon : MonState) (end n at whole : ℕ) → n ≡ 0 → rows_on mon end n at ≡ whole → at ≡ whole
unfolding rows_on
on_done mon end n at whole e so_far = sym (ap (λ k. rows_on mon end k at) e) ∙ so_far

-- ---- how many rows there are to an end

one_row : (mon : MonState) (end m at : ℕ) → at < end → rows_to mon end (suc m) at ≡ suc (rows_to mon end m (next_row mon end at))
unfolding rows_to
one_row mon end m at before = ap (λ b. if b then suc (rows_to mon end m (next_row mon end at)) else 0) (lt-ltb at end before)

pub to_more : (mon : MonState) (end n m at next count whole : ℕ) → n ≡ suc m → at < end → next ≡ next_row mon end at
    → count + rows_to mon end n at ≡ whole → (count + 1) + rows_to mon end m next ≡ whole
to_more mon end n m at next count whole e before is so_far =
    let step : rows_to mon end n at ≡ suc (rows_to mon end m next) =
    ap (λ k. rows_to mon end k at) e ∙ one_row mon end m at before ∙ ap (λ a. suc (rows_to mon end m a)) (sym is) in
    omega (arith, step, so_far)

no_row : (mon : MonState) (end n at : ℕ) → end ≤ at → rows_to mon end n at ≡ 0
unfolding rows_to
no_row mon end zero at behind = refl
no_row mon end (suc n) at behind = ap (λ b. if b then suc (rows_to mon end n (next_row mon end at)) else 0) (le-ltb at end behind)

pub to_end : (mon : MonState) (end n at count whole : ℕ) → end ≤ at → count + rows_to mon end n at ≡ whole → count ≡ whole
to_end mon end n at count whole behind so_far =
    let none = no_row mon end n at behind in omega (arith, none, so_far)

pub to_done : (mon : MonState) (end n at count whole : ℕ) → n ≡ 0 → count + rows_to mon end n at ≡ whole → count ≡ whole
unfolding rows_to
to_done mon end n at count whole e so_far =
    let none : rows_to mon end n at ≡ 0 = ap (λ k. rows_to mon end k at) e in omega (arith, none, so_far)

-- ---- rows

picked : (b : Bool) (f : ℕ → SeenItem) (d : SeenItem) (at len whole past : ℕ) → (if b then at + len else past) ≡ (if b then at + whole else past)
    → (if b then f len else d) ≡ (if b then f whole else d)
picked true f d at len whole past e = let same : len ≡ whole = omega (arith, e) in ap f same
picked false f d at len whole past e = refl

-- a row has as many bytes as there are to the next
pub row_here : (mon : MonState) (files : List FilePath) (counting : Counting) (end at len : ℕ) → behind_row at len ≡ next_row mon end at
    → row_of mon files counting at len ≡ row_at mon files counting end at
row_here mon files counting end at len e = picked (nat_lt at 65536) (λ (n : ℕ). row_shown mon files counting at n) (no_instruction (decimal at)) at len
    (row_len mon end at) _ e

pub rows_more : (mon : MonState) (files : List FilePath) (counting : Counting) (end n m at next : ℕ) (found whole : List SeenItem) (d : SeenItem) → n ≡ suc m
    → next ≡ next_row mon end at → d ≡ row_at mon files counting end at
    → found ++ rows mon files counting end n at ≡ whole → (found ++ d ∷ []) ++ rows mon files counting end m next ≡ whole
unfolding rows
rows_more mon files counting end n m at next found whole d e is shown so_far =
    let rest = rows mon files counting end m next in
    let step : rows mon files counting end n at ≡ row_at mon files counting end at ∷ rest
    = ap (λ k. rows mon files counting end k at) e ∙ ap (λ a. row_at mon files counting end at ∷ rows mon files counting end m a) (sym is) in
    append_assoc found (d ∷ []) rest ∙ ap (λ (x : SeenItem). found ++ x ∷ rest) shown ∙ sym (ap (λ (ds : List SeenItem). found ++ ds) step) ∙ so_far

pub rows_done : (mon : MonState) (files : List FilePath) (counting : Counting) (end n at : ℕ) (found whole : List SeenItem) → n ≡ 0
    → found ++ rows mon files counting end n at ≡ whole → found ≡ whole
unfolding rows
rows_done mon files counting end n at found whole e so_far =
    sym (append-nil found) ∙ sym (ap (λ k. found ++ rows mon files counting end k at) e) ∙ so_far

-- ---- rows in front of the memory, and the rows behind them

pub around : (mon : MonState) (files : List FilePath) (counting : Counting) (end back on count steps_back steps_on lacking begun less left : ℕ)
    → steps_back ≡ back → steps_on ≡ on
    → lacking ≡ steps_back - found mon end steps_back → begun ≡ first mon end steps_back steps_on → less ≡ min lacking count → left ≡ count - lacking
    → lacking_rows less lacking ++ rows mon files counting end left begun ≡ rows_around mon files counting end back on count
around mon files counting end back on count steps_back steps_on lacking begun less left is_back is_on is_lacking is_begun is_less is_left =
    let none : lacking ≡ back - found mon end back = is_lacking ∙ ap (λ b. b - found mon end b) is_back in
    let start : begun ≡ first mon end back on = is_begun ∙ (λ i. first mon end (is_back i) (is_on i)) in
    let few : less ≡ min (back - found mon end back) count = is_less ∙ ap (λ k. min k count) none in
    let many : left ≡ count - (back - found mon end back) = is_left ∙ ap (λ k. count - k) none in
    λ i. lacking_rows (few i) (none i) ++ rows mon files counting end (many i) (start i)

pub lacking_more : (n m before next : ℕ) (found whole : List SeenItem) (d : SeenItem) → n ≡ suc m → next ≡ before - 1
    → d ≡ no_instruction (codes "-" ++ decimal before)
    → found ++ lacking_rows n before ≡ whole → (found ++ d ∷ []) ++ lacking_rows m next ≡ whole
unfolding lacking_rows
lacking_more n m before next found whole d e is shown so_far =
    append_assoc found (d ∷ []) (lacking_rows m next) ∙ (λ i. found ++ shown i ∷ lacking_rows m (is i))
    ∙ sym (ap (λ k. found ++ lacking_rows k before) e) ∙ so_far

pub lacking_done : (n before : ℕ) (found whole : List SeenItem) → n ≡ 0 → found ++ lacking_rows n before ≡ whole → found ≡ whole
unfolding lacking_rows
lacking_done n before found whole e so_far =
    sym (append-nil found) ∙ sym (ap (λ k. found ++ lacking_rows k before) e) ∙ so_far
