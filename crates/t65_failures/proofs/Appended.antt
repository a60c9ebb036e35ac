-- Texts of things, one behind the other.
use Rattle.std.proofs.Common.{◌≡◌, ◌∙◌, ◌++◌, ℕ, ◌+◌, ◌<◌, ◌≤◌, List, drop, get_or, length, sym, ap, append-nil, append_assoc}
use Rattle.std.specs.List.{flat_map}
use Rattle.std.proofs.lemmas.List.{at_drop_more, at_drop_all}

-- The text of the next thing was appended: what is left to append is one less.
pub one_more : {A : Type 0} (f : A → List ℕ) (all : List A) (n : ℕ) (x : A) (before after whole : List ℕ) → n < length all
    → after ≡ before ++ f (get_or all n x) → before ++ flat_map f (drop n all) ≡ whole
    → after ++ flat_map f (drop (n + 1) all) ≡ whole
one_more f all n x before after whole h grown so_far =
    let here : flat_map f (drop n all) ≡ f (get_or all n x) ++ flat_map f (drop (n + 1) all) = at_drop_more (flat_map f) all n x h in
    ap (λ t. t ++ flat_map f (drop (n + 1) all)) grown
    ∙ (append_assoc before (f (get_or all n x)) (flat_map f (drop (n + 1) all))
    ∙ (ap (λ t. before ++ t) (sym here) ∙ so_far))

-- Nothing is left to append.
pub all_done : {A : Type 0} (f : A → List ℕ) (all : List A) (n : ℕ) (before whole : List ℕ) → length all ≤ n
    → before ++ flat_map f (drop n all) ≡ whole → before ≡ whole
all_done f all n before whole h so_far =
    sym (append-nil before) ∙ (ap (λ t. before ++ t) (sym (at_drop_all (flat_map f) all n h)) ∙ so_far)
