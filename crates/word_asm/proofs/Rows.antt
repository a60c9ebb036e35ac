-- The rows of names and of places, one after another.
use Rattle.std.proofs.Common.{◌≡◌, ℕ, ℤ, ◌+◌, ◌<◌, ◌≤◌, List, [], ◌∷◌, ◌++◌, length, drop, get_or, Option, Some, None, ◌⊎◌, inl, inr, refl, sym, ◌∙◌, ap, append_assoc, append-nil, arith}
use Rattle.std.specs.Prelude.{slice_get}
use Rattle.std.specs.List.{flat_map}
use Rattle.std.proofs.lemmas.List.{drop_more, drop_all}
use Rattle.std.proofs.lemmas.Option.{slice_get_within, slice_get_cases, get_or_from_slice_get}
use Rattle.model.specs.Names.{Definitions}
use Rattle.source_faults.specs.Views.{found_all, found_view}
use Rattle.source_faults.specs.declared.found.Found.{Found}
use Rattle.word_asm.specs.Found.{extent_found, extents_found}
use Rattle.word_asm.specs.Texts.{map_row, map_text, row_in}
use Rattle.word_asm.specs.declared.format.SymbolsFormat.{SymbolsFormat}

abbrev pub names_left : SymbolsFormat → Definitions → ℕ → List ℕ
names_left format names i = flat_map (row_in format) (drop i names)

-- a name
pub name_done : (format : SymbolsFormat) (out new : List ℕ) (names : Definitions) (i : ℕ) (name : List ℕ × ℤ) (total : List ℕ)
    → Some name ≡ slice_get names i → new ≡ out ++ row_in format name → out ++ names_left format names i ≡ total
    → new ++ names_left format names (i + 1) ≡ total
name_done format out new names i name total is put so_far =
    let at : slice_get names i ≡ Some name = sym is in
    let first : drop i names ≡ name ∷ drop (i + 1) names = drop_more names i name (slice_get_within names i name at)
    ∙ ap (λ (x : List ℕ × ℤ). x ∷ drop (i + 1) names) (get_or_from_slice_get names i name name at) in
    let next : names_left format names i ≡ row_in format name ++ names_left format names (i + 1) = rw first refl in
    rw put (append_assoc out (row_in format name) (names_left format names (i + 1))) ∙ ap (λ (x : List ℕ). out ++ x) (sym next) ∙ so_far

-- no name is left
pub no_name : (format : SymbolsFormat) (out : List ℕ) (names : Definitions) (i : ℕ) (total : List ℕ) → length names ≤ i
    → out ++ names_left format names i ≡ total → out ≡ total
no_name format out names i total past so_far =
    let none : drop i names ≡ [] = drop_all i names past in
    sym (append-nil out) ∙ (rw none at so_far)

abbrev There : Definitions → ℕ → Type 0
There names i = ((d : List ℕ × ℤ) × (i < length names) × (slice_get names i ≡ Some d) × (get_or names i d ≡ d))
    ⊎ ((length names ≤ i) × (slice_get names i ≡ None))

not_both : (d : List ℕ × ℤ) (a : Option (List ℕ × ℤ)) → None ≡ a → a ≡ Some d → ⊥
not_both d a p q = cc

case_there : (names : Definitions) (i : ℕ) → i < length names → None ≡ slice_get names i → There names i → ⊥
case_there names i within none (inl there) = not_both there.0 (slice_get names i) none there.2
case_there names i within none (inr past) = absurd (omega (arith, within, past.0))

-- a place has a name
pub name_there : (names : Definitions) (i : ℕ) → i < length names → None ≡ slice_get names i → ⊥
name_there names i within none = case_there names i within none (slice_get_cases names i).1

-- ---- places

abbrev pub places_left : List Found → ℕ → List ℕ
places_left found i = map_text (i + 1) (extents_found (found_all (drop i found)))

-- a line
pub place_done : (out new : List ℕ) (found : List Found) (i : ℕ) (line : Found) (place : ℕ × ℕ) (number : ℕ) (total : List ℕ)
    → i < length found → line ≡ get_or found i line → place ≡ extent_found (found_view line) → number ≡ i + 1 → new ≡ out ++ map_row number place
    → out ++ places_left found i ≡ total → new ++ places_left found (i + 1) ≡ total
place_done out new found i line place number total within is stands counted put so_far =
    let first : drop i found ≡ line ∷ drop (i + 1) found = drop_more found i line within ∙ ap (λ (x : Found). x ∷ drop (i + 1) found) (sym is) in
    let row : List ℕ = map_row (i + 1) (extent_found (found_view line)) in
    let next : places_left found i ≡ row ++ places_left found (i + 1) = rw first refl in
    rw (put, counted, stands) (append_assoc out row (places_left found (i + 1))) ∙ ap (λ (x : List ℕ). out ++ x) (sym next) ∙ so_far

-- no line is left
pub no_place : (out : List ℕ) (found : List Found) (i : ℕ) (total : List ℕ) → length found ≤ i → out ++ places_left found i ≡ total → out ≡ total
no_place out found i total past so_far =
    let none : drop i found ≡ [] = drop_all i found past in
    sym (append-nil out) ∙ (rw none at so_far)
