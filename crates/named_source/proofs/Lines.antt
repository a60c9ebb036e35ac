-- A line written with names, one byte after another.
use Rattle.std.proofs.Common.{◌≡◌, ℕ, zero, suc, ◌+◌, ◌-◌, ◌<◌, ◌≤◌, List, [], ◌∷◌, ◌++◌, length, Option, refl, sym, ap, ◌∙◌, arith, add-one, drop, take, get_or, append_assoc, append-nil, drop-cons, drop_of_length-le}
use Rattle.std.specs.List.{flat_map}
use Rattle.std.proofs.lemmas.Grind.{common_steps}
use Rattle.model.specs.Names.{Definitions}
use Rattle.model.specs.TextLines.{lines_from, lines_of}
use Rattle.named_source.specs.Renaming.{definition_of, definitions_from, ended_named, left_out, name_outside, place_at, rest_named, written_for, Found}

-- ---- a line

pub left_more : (names : Definitions) (image : List (Option ℕ)) (before left b : ℕ) (rest : List ℕ) → 0 < left
    → rest_named names image before left (b ∷ rest) ≡ rest_named names image b (left - 1) rest
unfolding rest_named
left_more names image before zero b rest h = absurd (omega (arith, h))
left_more names image before (suc left) b rest h = let one : suc left - 1 ≡ left = omega arith in rw one refl

pub here : (names : Definitions) (image : List (Option ℕ)) (before b : ℕ) (rest : List ℕ) (found : Found) → place_at names image before (b ∷ rest) ≡ found
    → rest_named names image before 0 (b ∷ rest) ≡ written_for b found ++ rest_named names image b (left_out found) rest
unfolding rest_named
here names image before b rest found is = rw is refl

pub line_end : (names : Definitions) (image : List (Option ℕ)) (before left : ℕ) (line out : List ℕ) (i : ℕ) → length line ≤ i
    → out ++ rest_named names image before left (drop i line) ≡ out
unfolding rest_named
line_end names image before left line out i h = rw (drop_of_length-le line h) (append-nil out)

-- what is written, and what is left to write
abbrev pub IsWritten : Definitions → List (Option ℕ) → List ℕ → List ℕ → ℕ → ℕ → ℕ → List ℕ → Type 0
IsWritten names image line out i before left whole = out ++ rest_named names image before left (drop i line) ≡ whole

pub byte_left : (names : Definitions) (image : List (Option ℕ)) (line out : List ℕ) (i before left b : ℕ) (whole : List ℕ) → i < length line
    → get_or line i 0 ≡ b → 0 < left
    → IsWritten names image line out i before left whole → IsWritten names image line out (i + 1) b (left - 1) whole
byte_left names image line out i before left b whole inside is some w =
    let cut : drop i line ≡ b ∷ drop (suc i) line = drop-cons line i 0 inside ∙ ap (λ (c : ℕ). c ∷ drop (suc i) line) is in
    rw add-one (ap (λ (t : List ℕ). out ++ t) (sym (left_more names image before left b (drop (suc i) line) some)) ∙ rw cut at w)

pub byte_written : (names : Definitions) (image : List (Option ℕ)) (line out new : List ℕ) (i before left b : ℕ) (found : Found) (whole : List ℕ)
    → i < length line → get_or line i 0 ≡ b → left ≡ 0
    → place_at names image before (drop i line) ≡ found → new ≡ out ++ written_for b found
    → IsWritten names image line out i before left whole → IsWritten names image line new (i + 1) b (left_out found) whole
byte_written names image line out new i before left b found whole inside is none place put w =
    let cut : drop i line ≡ b ∷ drop (suc i) line = drop-cons line i 0 inside ∙ ap (λ (c : ℕ). c ∷ drop (suc i) line) is in
    let at : rest_named names image before 0 (b ∷ drop (suc i) line) ≡ written_for b found ++ rest_named names image b (left_out found) (drop (suc i) line) =
    here names image before b (drop (suc i) line) found (rw cut at place) in
    rw (add-one, put) (append_assoc out (written_for b found) (rest_named names image b (left_out found) (drop (suc i) line))
    ∙ (ap (λ (t : List ℕ). out ++ t) (sym at) ∙ rw (cut, none) at w))

pub rest_is : (line : List ℕ) (i : ℕ) → take (length line - i) (drop i line) ≡ drop i line
rest_is line i = grind (arith, common_steps)

-- ---- definitions

pub definitions_more : (names : Definitions) (image : List (Option ℕ)) (n i : ℕ) (out new whole : List ℕ) → i < n
    → new ≡ out ++ definition_of i (name_outside names image i)
    → out ++ definitions_from names image (n - i) i ≡ whole → new ++ definitions_from names image (n - (i + 1)) (i + 1) ≡ whole
unfolding definitions_from
definitions_more names image n i out new whole h put w =
    let one : n - i ≡ suc (n - (i + 1)) = omega (arith, h) in
    rw put (append_assoc out (definition_of i (name_outside names image i)) (definitions_from names image (n - (i + 1)) (i + 1)) ∙ rw one at w)

pub definitions_end : (names : Definitions) (image : List (Option ℕ)) (n i : ℕ) (out : List ℕ) → n ≤ i → out ++ definitions_from names image (n - i) i ≡ out
unfolding definitions_from
definitions_end names image n i out h = let none : n - i ≡ 0 = omega (arith, h) in rw none (append-nil out)

-- ---- lines

no_lines : (text : List ℕ) → length text ≡ 0 → lines_of text ≡ []
unfolding lines_from
no_lines [] h = refl
no_lines (b ∷ text) h = absurd (omega (arith, h))

pub lines_end : (names : Definitions) (image : List (Option ℕ)) (out rest : List ℕ) → length rest ≡ 0
    → out ++ flat_map (ended_named names image) (lines_of rest) ≡ out
lines_end names image out rest h = ap (λ (ls : List (List ℕ)). out ++ flat_map (ended_named names image) ls) (no_lines rest h) ∙ append-nil out

pub line_more : (names : Definitions) (image : List (Option ℕ)) (out new rest line more whole : List ℕ) → lines_of rest ≡ line ∷ lines_of more
    → new ≡ out ++ ended_named names image line
    → out ++ flat_map (ended_named names image) (lines_of rest) ≡ whole → new ++ flat_map (ended_named names image) (lines_of more) ≡ whole
line_more names image out new rest line more whole cut put w =
    rw put (append_assoc out (ended_named names image line) (flat_map (ended_named names image) (lines_of more)) ∙ rw cut at w)
