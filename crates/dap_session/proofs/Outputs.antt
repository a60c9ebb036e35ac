-- What the program put out, character by character.
use Rattle.std.proofs.Common.{◌≡◌, ◌∙◌, ℕ, ◌≤◌, ◌++◌, List, ap, append-nil, drop, length, sym}
use Rattle.std.proofs.lemmas.List.{drop_all}
use Rattle.std.specs.List.{flat_map}

-- what is still to be appended, once all is
pub all_appended : (f : ℕ → List ℕ) (all : List ℕ) (i : ℕ) (text whole : List ℕ) → length all ≤ i → text ++ flat_map f (drop i all) ≡ whole → text ≡ whole
all_appended f all i text whole past so_far = sym (append-nil text) ∙ sym (ap (λ (l : List ℕ). text ++ flat_map f l) (drop_all i all past)) ∙ so_far
