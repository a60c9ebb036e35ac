-- The way along a list to what is made of each of it.
use Rattle.std.proofs.Common.{◌≡◌, ◌∙◌, ℕ, ◌+◌, ◌<◌, ◌≤◌, List, [], ◌∷◌, ◌++◌, length, drop, get_or, refl, ap, add-one, drop-cons}
use Rattle.std.proofs.lemmas.List.{drop_all}
use Rattle.std.proofs.lemmas.List.Concat.{flat_map-cons}
use Rattle.std.specs.List.{flat_map}

module _ {A D : Type 0} (f : A → List D) where
  pub flat_next : (all : List A) (i : ℕ) (e : A) → i < length all → flat_map f (drop i all) ≡ f (get_or all i e) ++ flat_map f (drop (i + 1) all)
  flat_next all i e within =
      let cut : drop i all ≡ get_or all i e ∷ drop (i + 1) all = rw (add-one, drop-cons all i e) refl in
      ap (flat_map f) cut ∙ flat_map-cons f (get_or all i e) (drop (i + 1) all)

  pub flat_end : (all : List A) (i : ℕ) → length all ≤ i → flat_map f (drop i all) ≡ []
  flat_end all i past = rw (drop_all i all past) refl
