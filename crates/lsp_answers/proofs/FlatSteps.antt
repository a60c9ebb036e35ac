-- The way along a list to what is made of each of it.
use Rattle.std.proofs.Common.{◌≡◌, ◌∙◌, ℕ, ◌+◌, ◌<◌, ◌≤◌, List, [], ◌∷◌, ◌++◌, length, drop, get_or, map, refl, sym, take, ap, add-one, append_assoc, append-nil, drop-cons}
use Rattle.std.proofs.lemmas.List.{drop_all, map-append, take_all, take_more}
use Rattle.std.proofs.lemmas.List.Concat.{flat_map-append, flat_map-cons}
use Rattle.std.specs.List.{flat_map}

module _ {A D : Type 0} (f : A → List D) where
  -- what is made of those from an index on
  abbrev pub left : List A → ℕ → List D
  left all i = flat_map f (drop i all)

  pub one_made : (all : List A) (i : ℕ) (e : A) (old new whole : List D) → i < length all → new ≡ old ++ f (get_or all i e)
      → old ++ left all i ≡ whole → new ++ left all (i + 1) ≡ whole
  one_made all i e old new whole within put so_far =
      let cut : drop i all ≡ get_or all i e ∷ drop (i + 1) all = rw (add-one, drop-cons all i e within) refl in
      let at : left all i ≡ f (get_or all i e) ++ left all (i + 1) = ap (flat_map f) cut ∙ flat_map-cons f (get_or all i e) (drop (i + 1) all) in
      ap (λ (t : List D). t ++ left all (i + 1)) put ∙ append_assoc old (f (get_or all i e)) (left all (i + 1))
      ∙ ap (λ (t : List D). old ++ t) (sym at) ∙ so_far

  pub all_made : (all : List A) (i : ℕ) (found whole : List D) → length all ≤ i → found ++ left all i ≡ whole → found ≡ whole
  all_made all i found whole past so_far =
      let none : left all i ≡ [] = ap (flat_map f) (drop_all i all past) in
      sym (append-nil found) ∙ sym (ap (λ (t : List D). found ++ t) none) ∙ so_far

-- the same behind others, of what is seen another way
module _ {A B D : Type 0} (f : B → List D) (g : A → B) (ds : List D) where
  pub taken_more : (all : List A) (i : ℕ) (e : A) → i < length all
      → (ds ++ flat_map f (map g (take i all))) ++ f (g (get_or all i e)) ≡ ds ++ flat_map f (map g (take (i + 1) all))
  taken_more all i e within =
      let seen : map g (take (i + 1) all) ≡ map g (take i all) ++ g (get_or all i e) ∷ [] =
      ap (map g) (take_more all i e within) ∙ map-append g (take i all) (get_or all i e ∷ []) in
      let one : flat_map f (g (get_or all i e) ∷ []) ≡ f (g (get_or all i e)) = flat_map-cons f (g (get_or all i e)) [] ∙ append-nil (f (g (get_or all i e))) in
      append_assoc ds (flat_map f (map g (take i all))) (f (g (get_or all i e)))
      ∙ sym (ap (λ (t : List D). ds ++ t) (ap (flat_map f) seen ∙ flat_map-append f (map g (take i all)) (g (get_or all i e) ∷ [])
      ∙ ap (λ (t : List D). flat_map f (map g (take i all)) ++ t) one))

  pub taken_all : (all : List A) (i : ℕ) → length all ≤ i → ds ++ flat_map f (map g (take i all)) ≡ ds ++ flat_map f (map g all)
  taken_all all i past = ap (λ (es : List A). ds ++ flat_map f (map g es)) (take_all i all past)
