-- Breakpoints one after another.
use Rattle.std.proofs.Common.{◌≡◌, ◌∙◌, ℕ, suc, ◌+◌, ◌<◌, ◌≤◌, Bool, true, false, eqb, Option, Some, None, refl, arith, add-one, List, length, drop, drop-cons, nat_eq, sym, ap}
use Rattle.std.proofs.Math.ListN.{drop_of_length-le}
use Rattle.std.proofs.lemmas.Option.{slice_get-get_or}
use Rattle.std.proofs.lemmas.Bool.Decides.{nat_tests}
use Rattle.std.specs.List.{list_any}
use Rattle.std.specs.Option.{option_eq}
use Rattle.std.specs.Prelude.{◌||◌, slice_get}

abbrev is_this : ℕ → Option ℕ → Bool
is_this a None = false
is_this a (Some at) = nat_eq a at

here : (a : ℕ) (xs : List ℕ) (i : ℕ) → i < length xs → list_any (nat_eq a) (drop i xs)
    ≡ (is_this a (slice_get xs i) || list_any (nat_eq a) (drop (suc i) xs))
here a xs i h = ap (list_any (nat_eq a)) (drop-cons xs i 0 h)
    ∙ ap (λ o. is_this a o || list_any (nat_eq a) (drop (suc i) xs)) (sym (slice_get-get_or xs i 0 h))

-- whether the breakpoint of an index is at an address
same : (a : ℕ) (o : Option ℕ) → option_eq eqb o (Some a) ≡ is_this a o
same a None = refl
same a (Some at) = grind (arith, nat_tests)

pub found : (a : ℕ) (xs : List ℕ) (i : ℕ) (whole : Bool)
    → whole ≡ list_any (nat_eq a) (drop i xs) → i < length xs
    → option_eq eqb (slice_get xs i) (Some a) ≡ true → true ≡ whole
found a xs i whole so_far h met = sym (so_far ∙ here a xs i h
    ∙ ap (λ x. x || list_any (nat_eq a) (drop (suc i) xs)) (sym (same a (slice_get xs i)) ∙ met))

pub not_here : (a : ℕ) (xs : List ℕ) (i : ℕ) (whole : Bool)
    → whole ≡ list_any (nat_eq a) (drop i xs) → i < length xs
    → option_eq eqb (slice_get xs i) (Some a) ≡ false
    → whole ≡ list_any (nat_eq a) (drop (i + 1) xs)
not_here a xs i whole so_far h unmet = rw add-one (so_far ∙ here a xs i h
    ∙ ap (λ x. x || list_any (nat_eq a) (drop (suc i) xs)) (sym (same a (slice_get xs i)) ∙ unmet))

pub nowhere : (a : ℕ) (xs : List ℕ) (i : ℕ) (whole : Bool)
    → whole ≡ list_any (nat_eq a) (drop i xs) → length xs ≤ i → false ≡ whole
nowhere a xs i whole so_far h = sym (so_far
    ∙ ap (list_any (nat_eq a)) (drop_of_length-le xs h))
