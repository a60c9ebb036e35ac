-- Those of a list that pass a test, and the list seen another way.
use Rattle.std.proofs.Common.{◌≡◌, Bool, true, false, List, [], ◌∷◌, map, refl, ap, cond}
use Rattle.std.specs.List.{filter}

module _ {A B : Type 0} (f : A → B) (p : B → Bool) where
  first : (b : Bool) (a : A) (kept : List A) (others : List B) → map f kept ≡ others → map f (cond b (a ∷ kept) kept) ≡ cond b (f a ∷ others) others
  first true a kept others same = ap (λ (bs : List B). f a ∷ bs) same
  first false a kept others same = same

  pub filter_mapped : (all : List A) → map f (filter (λ (a : A). p (f a)) all) ≡ filter p (map f all)
  filter_mapped [] = refl
  filter_mapped (a ∷ all) = first (p (f a)) a (filter (λ (x : A). p (f x)) all) (filter p (map f all)) (filter_mapped all)
