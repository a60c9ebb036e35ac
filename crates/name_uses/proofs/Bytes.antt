-- A text with a word in place of uses, one byte after another.
use Rattle.std.proofs.Common.{◌≡◌, ℕ, suc, ◌+◌, ◌-◌, ◌<◌, ◌≤◌, Bool, true, false, List, [], ◌∷◌, ◌++◌, length, refl, sym, ap, ◌∙◌, arith, add-one, drop, take, get_or, length-drop, append_assoc, append-nil, drop-cons, drop_of_length-le}
use Rattle.std.proofs.lemmas.List.{drop-drop, drop-map, take_all}
use Rattle.std.specs.Prelude.{◌==◌, if◌then◌else◌}
use Rattle.name_uses.specs.Uses.{Use}
use Rattle.name_uses.specs.Views.{use_view, use_views}
use Rattle.name_uses.specs.declared.name_use.NameUse.{NameUse}
use Rattle.name_uses.specs.Renaming.{column_after, left_at, line_after, piece_at, replaced, rest_at}

-- what is written, and what is left to write
abbrev pub IsWritten : List ℕ → List ℕ → ℕ → List Use → ℕ → ℕ → ℕ → List ℕ → List ℕ → Type 0
IsWritten word source i uses line column left out whole = out ++ replaced word uses line column left (drop i source) ≡ whole

opened : (word : List ℕ) (uses : List Use) (line column left b : ℕ) (text : List ℕ)
    → replaced word uses line column left (b ∷ text) ≡ piece_at word line column left uses b
    ++ replaced word (rest_at line column left uses) (line_after b line) (column_after b column) (left_at line column left uses) text
unfolding replaced
opened word uses line column left b text = refl

-- one byte more
pub byte_done : (word source : List ℕ) (i : ℕ) (uses behind : List Use) (line column left line' column' more : ℕ) (out new whole : List ℕ) → i < length source
    → line' ≡ line_after (get_or source i 0) line → column' ≡ column_after (get_or source i 0) column
    → new ≡ out ++ piece_at word line column left uses (get_or source i 0) → behind ≡ rest_at line column left uses → more ≡ left_at line column left uses
    → IsWritten word source i uses line column left out whole → IsWritten word source (i + 1) behind line' column' more new whole
byte_done word source i uses behind line column left line' column' more out new whole inside p q put rest count w =
    let b = get_or source i 0 in
    let cut : drop i source ≡ b ∷ drop (suc i) source = drop-cons source i 0 inside in
    let after = replaced word (rest_at line column left uses) (line_after b line) (column_after b column) (left_at line column left uses)
    (drop (suc i) source) in
    rw (add-one, p, q, put, rest, count)
    (append_assoc out (piece_at word line column left uses b) after
    ∙ (ap (λ (t : List ℕ). out ++ t) (sym (opened word uses line column left b (drop (suc i) source))) ∙ rw cut at w))

pub text_done : (word source : List ℕ) (i : ℕ) (uses : List Use) (line column left : ℕ) (out whole : List ℕ) → length source ≤ i
    → IsWritten word source i uses line column left out whole → out ≡ whole
unfolding replaced
text_done word source i uses line column left out whole past w =
    let none : replaced word uses line column left (drop i source) ≡ [] = rw (drop_of_length-le source past) refl in
    sym (append-nil out) ∙ sym (ap (λ (t : List ℕ). out ++ t) none) ∙ w

-- the uses behind those that were met
pub views_drop : (uses : List NameUse) (next met : ℕ) → use_views (drop (next + met) uses) ≡ drop met (use_views (drop next uses))
views_drop uses next met = sym (drop-map use_view met (drop next uses) ∙ ap use_views (drop-drop met next uses))

-- a slice from an index on is all that is behind it
pub slice_is : (uses : List NameUse) (next : ℕ) → take (length uses - next) (drop next uses) ≡ drop next uses
slice_is uses next = take_all (length uses - next) (drop next uses) (omega (arith, length-drop next uses))

-- one byte more, where a slice of the uses was looked at
pub step_done : (word source : List ℕ) (i : ℕ) (uses given : List NameUse) (next met line column left line' column' more : ℕ) (out new whole : List ℕ)
    → i < length source → given ≡ drop next uses
    → line' ≡ line_after (get_or source i 0) line → column' ≡ column_after (get_or source i 0) column
    → new ≡ out ++ piece_at word line column left (use_views given) (get_or source i 0)
    → drop met (use_views given) ≡ rest_at line column left (use_views given) → more ≡ left_at line column left (use_views given)
    → IsWritten word source i (use_views (drop next uses)) line column left out whole
    → IsWritten word source (i + 1) (use_views (drop (next + met) uses)) line' column' more new whole
step_done word source i uses given next met line column left line' column' more out new whole inside same p q put rest count w =
    byte_done word source i (use_views (drop next uses)) (use_views (drop (next + met) uses)) line column left line' column' more out new whole inside p q
    (put ∙ ap (λ (g : List NameUse). out ++ piece_at word line column left (use_views g) (get_or source i 0)) same)
    (views_drop uses next met ∙ ap (λ (g : List NameUse). drop met (use_views g)) (sym same) ∙ rest
    ∙ ap (λ (g : List NameUse). rest_at line column left (use_views g)) same)
    (count ∙ ap (λ (g : List NameUse). left_at line column left (use_views g)) same) w

pub line_near : (b line : ℕ) → line_after b line ≤ line + 1
line_near b line = by (b == 10)
  where
    by : (t : Bool) → (if t then line + 1 else line) ≤ line + 1
    by true = omega arith
    by false = omega arith

pub column_near : (b column : ℕ) → column_after b column ≤ column + 1
column_near b column = by (b == 10)
  where
    by : (t : Bool) → (if t then 0 else column + 1) ≤ column + 1
    by true = omega arith
    by false = omega arith

pub met_within : (uses given : List NameUse) (next met : ℕ) → next ≤ length uses → given ≡ drop next uses → met ≤ length given → next + met ≤ length uses
met_within uses given next met within same few = omega (arith, within, few, ap length same, length-drop next uses)
