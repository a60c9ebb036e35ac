-- A file that is named, among all that are.
use Rattle.std.proofs.Common.{◌≡◌, ◌∙◌, ℕ, ◌<◌, Bool, true, List, length, get_or, map, ap}
use Rattle.std.specs.List.{list_any}
use Rattle.std.proofs.lemmas.List.{get_or-map, length-map}
use Rattle.std.proofs.lemmas.List.Folds.{list_any_at}

pub named_here : {A B : Type 0} (p : B → Bool) (view : A → B) (xs : List A) (i : ℕ) (d : A) → i < length xs
    → p (view (get_or xs i d)) ≡ true → list_any p (map view xs) ≡ true
named_here p view xs i d within at =
    let inside : i < length (map view xs) = rw (length-map xs view) within in
    list_any_at p (map view xs) i (view d) inside (ap p (get_or-map view xs i d (view d) within) ∙ at)
