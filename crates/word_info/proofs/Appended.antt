-- Texts of the pairs of two lists, one behind the other.
use Rattle.std.proofs.Common.{◌≡◌, ◌∙◌, ◌++◌, ℕ, ◌+◌, ◌<◌, ◌≤◌, List, drop, get_or, length, min, sym, ap, append-nil, append_assoc, arith}
use Rattle.std.specs.List.{flat_map, zip}
use Rattle.std.proofs.lemmas.List.{at_drop_more, at_drop_all}
use Rattle.std.proofs.lemmas.Slice.Zip.{get_or-zip, length-zip}

-- The text of the next pair was appended: what is left to append is one less.
pub one_more : {A B : Type 0} (f : A × B → List ℕ) (ks : List A) (vs : List B) (n m : ℕ) (k : A) (v : B) (before after whole : List ℕ)
    → n < length ks → n < length vs → k ≡ get_or ks n k → v ≡ get_or vs n v → m ≡ n + 1
    → after ≡ before ++ f (k, v) → before ++ flat_map f (drop n (zip ks vs)) ≡ whole
    → after ++ flat_map f (drop m (zip ks vs)) ≡ whole
one_more f ks vs n m k v before after whole in_ks in_vs is_k is_v next grown so_far =
    let size = length-zip ks vs in
    let inside : n < length (zip ks vs) = omega (arith, size, in_ks, in_vs) in
    let there : (k, v) ≡ get_or (zip ks vs) n (k, v) = cc (get_or-zip ks vs n (k, v) in_ks in_vs) in
    let here : flat_map f (drop n (zip ks vs)) ≡ f (get_or (zip ks vs) n (k, v)) ++ flat_map f (drop (n + 1) (zip ks vs))
    = at_drop_more (flat_map f) (zip ks vs) n (k, v) inside in
    ap (λ i. after ++ flat_map f (drop i (zip ks vs))) next
    ∙ (ap (λ t. t ++ flat_map f (drop (n + 1) (zip ks vs))) (grown ∙ ap (λ p. before ++ f p) there)
    ∙ (append_assoc before (f (get_or (zip ks vs) n (k, v))) (flat_map f (drop (n + 1) (zip ks vs)))
    ∙ (ap (λ t. before ++ t) (sym here) ∙ so_far)))

-- Nothing is left to append.
pub all_done : {A B : Type 0} (f : A × B → List ℕ) (ks : List A) (vs : List B) (n : ℕ) (before whole : List ℕ)
    → n ≡ min (length ks) (length vs) → before ++ flat_map f (drop n (zip ks vs)) ≡ whole → before ≡ whole
all_done f ks vs n before whole end so_far =
    let size = length-zip ks vs in
    let past : length (zip ks vs) ≤ n = omega (arith, size, end) in
    sym (append-nil before) ∙ (ap (λ t. before ++ t) (sym (at_drop_all (flat_map f) (zip ks vs) n past)) ∙ so_far)
