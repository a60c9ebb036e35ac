-- A text of which the row from an index on grows, while what stands before the row is the same.
use Rattle.std.proofs.Common.{◌≡◌, ◌∙◌, ℕ, ◌+◌, ◌<◌, ◌≤◌, List, [], ◌∷◌, ◌++◌, length, take, drop, get_or, refl, sym, ap, subst, append_assoc, drop-cons, add-one}
use Rattle.std.proofs.lemmas.List.{take-append-drop}
use Rattle.std.proofs.Math.ListN.{drop_of_length-le}
use Rattle.model.specs.State.{Bus}
use Rattle.formatting.specs.Padding.{padded}
use Rattle.formatting.proofs.Padding.{reaches, take_taken, drop_taken}
use Rattle.trace_rows.specs.Steps.{store_text, with_stores}

pub joined : (t0 t1 t2 a b : List ℕ) → t1 ≡ t0 ++ a → t2 ≡ t1 ++ b → t2 ≡ t0 ++ (a ++ b)
joined t0 t1 t2 a b e1 e2 = e2 ∙ (ap (λ t. t ++ b) e1 ∙ append_assoc t0 a b)

-- Five texts, one behind the other.
pub five : (t0 t1 t2 t3 t4 t5 a b c d e : List ℕ) → t1 ≡ t0 ++ a → t2 ≡ t1 ++ b → t3 ≡ t2 ++ c
    → t4 ≡ t3 ++ d → t5 ≡ t4 ++ e → t5 ≡ t0 ++ (a ++ b ++ c ++ d ++ e)
five t0 t1 t2 t3 t4 t5 a b c d e e1 e2 e3 e4 e5 =
    joined t0 t4 t5 (a ++ b ++ c ++ d) e (joined t0 t3 t4 (a ++ b ++ c) d
    (joined t0 t2 t3 (a ++ b) c (joined t0 t1 t2 a b e1 e2) e3) e4) e5

-- A row that has changed, and then grown.
pub changed : (from : ℕ) (t0 t1 t2 row tail : List ℕ) → t1 ≡ take from t0 ++ row → t2 ≡ t1 ++ tail
    → t2 ≡ take from t0 ++ (row ++ tail)
changed from t0 t1 t2 row tail e1 e2
    = e2 ∙ (ap (λ t. t ++ tail) e1 ∙ append_assoc (take from t0) row tail)

pub changed_reaches : (from : ℕ) (t0 t1 t2 row tail : List ℕ) → from ≤ length t0
    → t1 ≡ take from t0 ++ row → t2 ≡ t1 ++ tail → from ≤ length t2
changed_reaches from t0 t1 t2 row tail h e1 e2 =
    subst (λ t. from ≤ length t) (sym (changed from t0 t1 t2 row tail e1 e2))
    (reaches from t0 (row ++ tail) h)

pub changed_before : (from : ℕ) (t0 t1 t2 row tail : List ℕ) → from ≤ length t0
    → t1 ≡ take from t0 ++ row → t2 ≡ t1 ++ tail → take from t2 ≡ take from t0
changed_before from t0 t1 t2 row tail h e1 e2 =
    ap (take from) (changed from t0 t1 t2 row tail e1 e2) ∙ take_taken from t0 (row ++ tail) h

pub changed_row : (from : ℕ) (t0 t1 t2 row tail : List ℕ) → from ≤ length t0
    → t1 ≡ take from t0 ++ row → t2 ≡ t1 ++ tail → drop from t2 ≡ row ++ tail
changed_row from t0 t1 t2 row tail h e1 e2 =
    ap (drop from) (changed from t0 t1 t2 row tail e1 e2) ∙ drop_taken from t0 (row ++ tail) h

-- One more store of those that are appended.
pub next_store : (bus : Bus) (column i : ℕ) (row next whole stores : List ℕ) → i < length stores
    → next ≡ padded column row ++ store_text bus (get_or stores i 0)
    → with_stores bus column (drop i stores) row ≡ whole
    → with_stores bus (column + 8) (drop (i + 1) stores) next ≡ whole
unfolding with_stores
next_store bus column i row next whole stores h n e =
    let d : drop i stores ≡ get_or stores i 0 ∷ drop (i + 1) stores = rw (add-one, drop-cons stores i 0) refl in
    ap (λ t. with_stores bus (column + 8) (drop (i + 1) stores) t) n
    ∙ (sym (ap (λ t. with_stores bus column t row) d) ∙ e)

pub no_stores : (bus : Bus) (column : ℕ) (row : List ℕ) → with_stores bus column [] row ≡ row
unfolding with_stores
no_stores bus column row = refl

-- All stores were appended.
pub stored : (bus : Bus) (column i from : ℕ) (before text whole stores : List ℕ) → length stores ≤ i
    → take from text ≡ take from before
    → with_stores bus column (drop i stores) (drop from text) ≡ whole
    → text ≡ take from before ++ whole
stored bus column i from before text whole stores h e w =
    let none : drop i stores ≡ [] = drop_of_length-le stores h in
    let row : drop from text ≡ whole = sym (no_stores bus column (drop from text))
    ∙ (sym (ap (λ xs. with_stores bus column xs (drop from text)) none) ∙ w) in
    sym (take-append-drop from text) ∙ (ap (λ t. t ++ drop from text) e ∙ ap (λ t. take from before ++ t) row)
