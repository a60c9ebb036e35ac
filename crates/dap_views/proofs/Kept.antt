-- Those of a list that are kept, one after another.
use Rattle.std.proofs.Common.{◌≡◌, ◌∙◌, ℕ, ◌+◌, ◌<◌, Bool, List, [], ◌∷◌, ◌++◌, ap, append-nil, append_assoc, cond, get_or, length, map, sym, take}
use Rattle.std.proofs.lemmas.Grind.{flat_map-append}
use Rattle.std.proofs.lemmas.List.{map-append, take_more}
use Rattle.std.proofs.lemmas.List.Elements.{filter_more}
use Rattle.std.specs.List.{flat_map}
use Rattle.std.specs.Prelude.{filter}

pub kept_more : {A : Type 0} (keeps : A → Bool) (all : List A) (i : ℕ) (d : A) (is : Bool) (old new : List A) → i < length all
    → is ≡ keeps (get_or all i d) → new ≡ old ++ cond is (get_or all i d ∷ []) []
    → old ≡ filter keeps (take i all) → new ≡ filter keeps (take (i + 1) all)
kept_more keeps all i d is old new within kept put so_far =
    put ∙ (λ j. so_far j ++ cond (kept j) (get_or all i d ∷ []) []) ∙ sym (filter_more keeps all i d within)

-- what each of a list gives, one after another
module _ {A B : Type 0} (f : A → List B) where
  taken : (all : List A) (i : ℕ) (d : A) → i < length all → flat_map f (take i all) ++ f (get_or all i d) ≡ flat_map f (take (i + 1) all)
  taken all i d within =
      let v = get_or all i d in
      ap (λ (l : List B). flat_map f (take i all) ++ l) (sym (append-nil (f v)))
      ∙ sym (flat_map-append f (take i all) (v ∷ [])) ∙ sym (ap (flat_map f) (take_more all i d within))

  pub given_more : (all : List A) (i : ℕ) (d : A) (old new base : List B) → i < length all → new ≡ old ++ f (get_or all i d)
      → old ≡ base ++ flat_map f (take i all) → new ≡ base ++ flat_map f (take (i + 1) all)
  given_more all i d old new base within put so_far =
      put ∙ ap (λ (l : List B). l ++ f (get_or all i d)) so_far ∙ append_assoc base (flat_map f (take i all)) (f (get_or all i d))
      ∙ ap (λ (l : List B). base ++ l) (taken all i d within)

  pub mapped_more : {C : Type 0} (g : B → C) (all : List A) (i : ℕ) (d : A) (old new : List C) → i < length all
      → new ≡ old ++ map g (f (get_or all i d)) → old ≡ map g (flat_map f (take i all)) → new ≡ map g (flat_map f (take (i + 1) all))
  mapped_more {C} g all i d old new within put so_far =
      put ∙ ap (λ (l : List C). l ++ map g (f (get_or all i d))) so_far ∙ sym (map-append g (flat_map f (take i all)) (f (get_or all i d)))
      ∙ ap (map g) (taken all i d within)

-- one for each of a list, behind others
pub each_more : {A B : Type 0} (g : A → B) (all : List A) (i : ℕ) (d : A) (old new base : List B) → i < length all
    → new ≡ old ++ g (get_or all i d) ∷ [] → old ≡ base ++ map g (take i all) → new ≡ base ++ map g (take (i + 1) all)
each_more {A} {B} g all i d old new base within put so_far =
    let v = get_or all i d in
    put ∙ ap (λ (l : List B). l ++ g v ∷ []) so_far ∙ append_assoc base (map g (take i all)) (g v ∷ [])
    ∙ ap (λ (l : List B). base ++ l) (sym (map-append g (take i all) (v ∷ [])) ∙ sym (ap (map g) (take_more all i d within)))
