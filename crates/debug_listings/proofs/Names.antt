-- The place of the first that passes, by what things are without where they lie in memory.
use Rattle.std.proofs.Common.{◌≡◌, ◌∙◌, ◌+◌, Bool, List, [], ◌∷◌, length, map, Option, Some, None, refl, sym, ap, cond}
use Rattle.std.proofs.lemmas.List.{length-map}
use Rattle.std.specs.Prelude.{nat_lt, not, position}
use Rattle.std.specs.List.{prefix_len}

prefix_seen : {A B : Type 0} (view : A → B) (p : B → Bool) (xs : List A) → prefix_len (λ x. p (view x)) xs ≡ prefix_len p (map view xs)
prefix_seen view p [] = refl
prefix_seen view p (x ∷ xs) = ap (λ n. cond (p (view x)) (1 + n) 0) (prefix_seen view p xs)

pub position_seen : {A B : Type 0} (view : A → B) (p : B → Bool) (xs : List A) → position (λ x. p (view x)) xs ≡ position p (map view xs)
position_seen view p xs =
    ap (λ n. cond (nat_lt n (length xs)) (Some n) None) (prefix_seen view (λ y. not (p y)) xs)
    ∙ ap (λ n. cond (nat_lt (prefix_len (λ y. not (p y)) (map view xs)) n) (Some (prefix_len (λ y. not (p y)) (map view xs))) None) (sym (length-map xs view))
