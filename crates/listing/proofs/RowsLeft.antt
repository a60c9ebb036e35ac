-- The rows of an assembly, line by line and name by name.
use Rattle.std.proofs.Common.{◌≡◌, ℕ, ℤ, ◌+◌, ◌<◌, ◌≤◌, List, [], ◌∷◌, ◌++◌, length, take, drop, min, get_or, Option, Some, None, ◌⊎◌, inl, inr, refl, sym, ◌∙◌, ap, append_assoc, append-nil, length-drop, arith, ◌-◌}
use Rattle.std.specs.Prelude.{map, slice_get, unwrap_or}
use Rattle.std.specs.List.{flat_map}
use Rattle.std.proofs.lemmas.List.{drop_more, drop_all, drop_min, take_min, length-map, length-take}
use Rattle.std.proofs.Math.Nat.{min-le_right}
use Rattle.std.proofs.lemmas.Option.{slice_get_within, slice_get_cases, get_or_from_slice_get}
use Rattle.line_parts.specs.declared.span.Span.{Span}
use Rattle.line_parts.specs.Spans.{pairs_of}
use Rattle.model.specs.TextLines.{lines_from, lines_of}
use Rattle.model.specs.Names.{Definitions}
use Rattle.model.specs.Listing.{bytes_at, line_rows, lines_rows, name_row, address_and_bytes}

abbrev Cells : Type 0
Cells = List (Option ℕ)

-- the rows of lines in the places from one on
abbrev pub rows_left : Cells → List (List ℕ) → List Span → ℕ → List ℕ
rows_left image lines spans i = lines_rows lines (map (address_and_bytes image) (pairs_of (drop i spans)))

first_left : (spans : List Span) (i : ℕ) (span : Span) → i < length spans → span ≡ get_or spans i span → drop i spans ≡ span ∷ drop (i + 1) spans
first_left spans i span within is = drop_more spans i span within ∙ ap (λ (x : Span). x ∷ drop (i + 1) spans) (sym is)

-- a line
pub line_done : (image : Cells) (out new : List ℕ) (spans : List Span) (i : ℕ) (span : Span) (lines rest : List (List ℕ)) (line bytes total : List ℕ)
    → i < length spans → span ≡ get_or spans i span → lines ≡ line ∷ rest → bytes ≡ bytes_at image span.address span.count
    → new ≡ out ++ line_rows span.address bytes line → out ++ rows_left image lines spans i ≡ total → new ++ rows_left image rest spans (i + 1) ≡ total
line_done image out new spans i span lines rest line bytes total within is cut held put so_far =
    let row = line_rows span.address (bytes_at image span.address span.count) line in
    let next : rows_left image lines spans i ≡ row ++ rows_left image rest spans (i + 1) = rw (cut, first_left spans i span within is) refl in
    rw (put, held) (append_assoc out row (rows_left image rest spans (i + 1))) ∙ ap (λ (x : List ℕ). out ++ x) (sym next) ∙ so_far

-- no place is left
pub no_place : (image : Cells) (out : List ℕ) (spans : List Span) (i : ℕ) (lines : List (List ℕ)) (total : List ℕ) → length spans ≤ i
    → out ++ rows_left image lines spans i ≡ total → out ≡ total
no_place image out spans i [] total past so_far = sym (append-nil out) ∙ so_far
no_place image out spans i (line ∷ lines) total past so_far =
    let none : drop i spans ≡ [] = drop_all i spans past in
    sym (append-nil out) ∙ (rw none at so_far)

abbrev pub names_left : Definitions → ℕ → List ℕ
names_left names i = flat_map name_row (drop i names)

-- a name
pub name_done : (out new : List ℕ) (names : Definitions) (i : ℕ) (name : List ℕ × ℤ) (total : List ℕ)
    → Some name ≡ slice_get names i → new ≡ out ++ name_row name → out ++ names_left names i ≡ total → new ++ names_left names (i + 1) ≡ total
name_done out new names i name total is put so_far =
    let at : slice_get names i ≡ Some name = sym is in
    let first : drop i names ≡ name ∷ drop (i + 1) names = drop_more names i name (slice_get_within names i name at)
    ∙ ap (λ (x : List ℕ × ℤ). x ∷ drop (i + 1) names) (get_or_from_slice_get names i name name at) in
    let next : names_left names i ≡ name_row name ++ names_left names (i + 1) = rw first refl in
    rw put (append_assoc out (name_row name) (names_left names (i + 1))) ∙ ap (λ (x : List ℕ). out ++ x) (sym next) ∙ so_far

-- no name is left
pub no_name : (out : List ℕ) (names : Definitions) (i : ℕ) (total : List ℕ) → length names ≤ i → out ++ names_left names i ≡ total → out ≡ total
no_name out names i total past so_far =
    let none : drop i names ≡ [] = drop_all i names past in
    sym (append-nil out) ∙ (rw none at so_far)

-- a part of a list
pub cells_cut : (cells : Cells) (at count : ℕ) → take (min count (length (drop (min at (length cells)) cells))) (drop (min at (length cells)) cells)
    ≡ take count (drop at cells)
cells_cut cells at count = rw (drop_min at cells) (take_min count (drop at cells))

-- no more bytes than cells
pub bytes_few : (cells : Cells) (at count : ℕ) → length (bytes_at cells at count) ≤ length cells
bytes_few cells at count =
    rw (length-map (take count (drop at cells)) (λ (c : Option ℕ). unwrap_or c 0), length-take count (drop at cells), length-drop at cells)
    (omega (arith, min-le_right count (length cells - at)))

-- no line is left
pub no_line : (image : Cells) (out text : List ℕ) (spans : List Span) (i : ℕ) (total : List ℕ) → length text ≡ 0
    → out ++ rows_left image (lines_of text) spans i ≡ total → out ≡ total
unfolding lines_from
no_line image out [] spans i total none so_far = sym (append-nil out) ∙ so_far
no_line image out (b ∷ text) spans i total none so_far = absurd (omega (arith, none))

abbrev There : Definitions → ℕ → Type 0
There names i = ((d : List ℕ × ℤ) × (i < length names) × (slice_get names i ≡ Some d) × (get_or names i d ≡ d))
    ⊎ ((length names ≤ i) × (slice_get names i ≡ None))

not_both : (d : List ℕ × ℤ) (a : Option (List ℕ × ℤ)) → None ≡ a → a ≡ Some d → ⊥
not_both d a p q = cc

case_there : (names : Definitions) (i : ℕ) → i < length names → None ≡ slice_get names i → There names i → ⊥
case_there names i within none (inl there) = not_both there.0 (slice_get names i) none there.2
case_there names i within none (inr past) = absurd (omega (arith, within, past.0))

-- a place has a name
pub name_there : (names : Definitions) (i : ℕ) → i < length names → None ≡ slice_get names i → ⊥
name_there names i within none = case_there names i within none (slice_get_cases names i).1
