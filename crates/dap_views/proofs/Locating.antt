-- Items one after another, where each element of a list has some.
use Rattle.std.proofs.Common.{◌≡◌, ◌∙◌, ℕ, ◌+◌, ◌<◌, ◌≤◌, List, [], ◌∷◌, ◌++◌, length, drop, get_or, refl, sym, ap, add-one, append_assoc, append-nil, drop-cons}
use Rattle.std.proofs.lemmas.List.{drop_all}
use Rattle.std.specs.List.{flat_map}
use Rattle.dap_messages.specs.SeenAnswers.{SeenItem}

module _ {A : Type 0} (f : A → List SeenItem) where
  pub located_more : (all : List A) (i : ℕ) (d : A) (found whole : List SeenItem) → i < length all
      → found ++ flat_map f (drop i all) ≡ whole → (found ++ f (get_or all i d)) ++ flat_map f (drop (i + 1) all) ≡ whole
  located_more all i d found whole within so_far =
      let rest = drop (i + 1) all in
      let here : drop i all ≡ get_or all i d ∷ rest = rw (add-one, drop-cons all i d within) refl in
      append_assoc found (f (get_or all i d)) (flat_map f rest) ∙ sym (ap (λ (xs : List A). found ++ flat_map f xs) here) ∙ so_far

  pub located_done : (all : List A) (i : ℕ) (found whole : List SeenItem) → length all ≤ i → found ++ flat_map f (drop i all) ≡ whole → found ≡ whole
  located_done all i found whole past so_far =
      let none : flat_map f (drop i all) ≡ [] = ap (flat_map f) (drop_all i all past) in
      sym (append-nil found) ∙ sym (ap (λ (ds : List SeenItem). found ++ ds) none) ∙ so_far
