-- Words read one after another.
use Rattle.std.proofs.Common.{◌≡◌, ℕ, suc, ◌+◌, ◌<◌, ◌≤◌, List, [], ◌∷◌, ◌++◌, length, map, Option, Some, None, refl, sym, ap, ◌∙◌, append_assoc, append-nil, drop, drop-cons, add-one, get_or}
use Rattle.std.specs.Prelude.{option_map}
use Rattle.std.proofs.Math.ListN.{drop_of_length-le}
use Rattle.word_dis.specs.Asked.{all_of}

-- what was read comes before what is left
abbrev pub Reads : {A W : Type 0} → (W → List ℕ) → (List ℕ → Option A) → List W → ℕ → List A → Type 0
Reads now read words index items = all_of read (map now words) ≡ option_map (λ rest. items ++ rest) (all_of read (map now (drop index words)))

nothing_before : {A : Type 0} (r : Option (List A)) → r ≡ option_map (λ rest. [] ++ rest) r
nothing_before None = refl
nothing_before (Some rest) = refl

pub begun : {A W : Type 0} (now : W → List ℕ) (read : List ℕ → Option A) (words : List W) (items : List A) → items ≡ [] → Reads now read words 0 items
begun now read words items e = rw e (nothing_before (all_of read (map now words)))

joined : {A : Type 0} (items : List A) (x : A) (r : Option (List A))
    → option_map (λ rest. items ++ rest) (option_map (λ others. x ∷ others) r) ≡ option_map (λ rest. (items ++ x ∷ []) ++ rest) r
joined items x None = refl
joined items x (Some rest) = let e : items ++ x ∷ rest ≡ (items ++ x ∷ []) ++ rest = sym (append_assoc items (x ∷ []) rest) in rw e refl

pub one_more : {A W : Type 0} (now : W → List ℕ) (read : List ℕ → Option A) (words : List W) (index : ℕ) (items new : List A) (d : W) (a : A)
    → Reads now read words index items → index < length words
    → read (now (get_or words index d)) ≡ Some a → new ≡ items ++ a ∷ [] → Reads now read words (index + 1) new
one_more now read words index items new d a so_far inside e more =
    let step : all_of read (map now (drop index words)) ≡ option_map (λ others. a ∷ others) (all_of read (map now (drop (suc index) words))) =
    rw (drop-cons words index d, e) refl in
    rw (more, add-one) (so_far ∙ ap (option_map (λ rest. items ++ rest)) step ∙ joined items a (all_of read (map now (drop (suc index) words))))

pub one_wrong : {A W : Type 0} (now : W → List ℕ) (read : List ℕ → Option A) (words : List W) (index : ℕ) (items : List A) (d : W)
    → Reads now read words index items → index < length words
    → read (now (get_or words index d)) ≡ None → None ≡ all_of read (map now words)
one_wrong now read words index items d so_far inside e =
    let step : all_of read (map now (drop index words)) ≡ None = rw (drop-cons words index d, e) refl in
    sym (so_far ∙ ap (option_map (λ rest. items ++ rest)) step)

pub all_read : {A W : Type 0} (now : W → List ℕ) (read : List ℕ → Option A) (words : List W) (index : ℕ) (items : List A)
    → Reads now read words index items → length words ≤ index → Some items ≡ all_of read (map now words)
all_read now read words index items so_far past =
    let none : all_of read (map now (drop index words)) ≡ Some [] = rw (drop_of_length-le words past) refl in
    sym (so_far ∙ ap (option_map (λ rest. items ++ rest)) none ∙ rw (append-nil items) refl)
