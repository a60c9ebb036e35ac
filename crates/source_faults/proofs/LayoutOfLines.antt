-- The layout, line by line.
use Rattle.std.proofs.Common.{◌≡◌, ℕ, ◌+◌, true, false, List, [], ◌∷◌, ◌++◌, length, refl, sym, ◌∙◌, ap, arith, subst, length-append}
use Rattle.std.proofs.lemmas.List.{nil_from_length}
use Rattle.model.specs.TextLines.{lines_from, lines_of}
use Rattle.model.specs.declared.instruction.Profile.{Profile}
use Rattle.model.specs.AllFaults as all
use Rattle.model.specs.AllFaults.{fixed_after, fixed_by, found_line, found_lines}
use Rattle.model.specs.SourceLine.{read_line}
use Rattle.model.specs.Layout.{Context, layout_of}
use Rattle.model.specs.Names.{Definitions}
use Rattle.model.specs.Source.{is_end, up_to_end, first_context, read_lines}
use Rattle.source_faults.specs.declared.found.Found.{Found}
use Rattle.source_faults.specs.Views.{AreNumbered, HasNumber, found_all, found_view}

-- the lines that are still to be read
abbrev pub lines_left : Profile → List ℕ → List (List ℕ)
lines_left profile rest = up_to_end profile (lines_of rest)

no_lines : (text : List ℕ) → length text ≡ 0 → lines_of text ≡ []
unfolding lines_from
no_lines text empty = rw (nil_from_length text empty) refl

snoc : (fs : List Found) (f : Found) (rest : List all.Found) → found_all (fs ++ f ∷ []) ++ rest ≡ found_all fs ++ found_view f ∷ rest
snoc [] f rest = refl
snoc (x ∷ xs) f rest = ap (λ (y : List all.Found). found_view x ∷ y) (snoc xs f rest)

nothing_after : (fs : List all.Found) → fs ++ [] ≡ fs
nothing_after [] = refl
nothing_after (f ∷ fs) = ap (λ (y : List all.Found). f ∷ y) (nothing_after fs)

-- a line that others follow
pub goes_on : (m : all.Mending) (profile : Profile) (before next : Context) (fs : List Found) (f : Found) (rest text behind : List ℕ) (total : List all.Found)
    → lines_of rest ≡ text ∷ lines_of behind → is_end (read_line profile text) ≡ false
    → found_view f ≡ found_line before text (layout_of before text) → fixed_after m before text (layout_of before text) ≡ next
    → found_all fs ++ found_lines m before (lines_left profile rest) ≡ total
    → found_all (fs ++ f ∷ []) ++ found_lines m next (lines_left profile behind) ≡ total
goes_on m profile before next fs f rest text behind total cut more is after so_far =
    snoc fs f (found_lines m next (lines_left profile behind)) ∙ sym (rw (cut, more, after, ← is) refl) ∙ so_far

pub fixed_on : (m : all.Mending) (profile : Profile) (before next : Context) (rest text behind : List ℕ) (total : Context)
    → lines_of rest ≡ text ∷ lines_of behind → is_end (read_line profile text) ≡ false → fixed_after m before text (layout_of before text) ≡ next
    → fixed_by m before (lines_left profile rest) ≡ total → fixed_by m next (lines_left profile behind) ≡ total
fixed_on m profile before next rest text behind total cut more after so_far =
    let opened : fixed_by m before (lines_left profile rest)
    ≡ fixed_by m (fixed_after m before text (layout_of before text)) (lines_left profile behind) = rw (cut, more) refl in
    sym (opened ∙ ap (λ (x : Context). fixed_by m x (lines_left profile behind)) after) ∙ so_far

-- the line of `.END`
pub ends : (m : all.Mending) (profile : Profile) (before : Context) (fs : List Found) (f : Found) (rest text behind : List ℕ) (total : List all.Found)
    → lines_of rest ≡ text ∷ lines_of behind → is_end (read_line profile text) ≡ true → found_view f ≡ found_line before text (layout_of before text)
    → found_all fs ++ found_lines m before (lines_left profile rest) ≡ total → found_all (fs ++ f ∷ []) ≡ total
ends m profile before fs f rest text behind total cut closed is so_far =
    sym (nothing_after (found_all (fs ++ f ∷ []))) ∙ snoc fs f [] ∙ sym (rw (cut, closed, ← is) refl) ∙ so_far

pub fixed_end : (m : all.Mending) (profile : Profile) (before next : Context) (rest text behind : List ℕ) (total : Context)
    → lines_of rest ≡ text ∷ lines_of behind → is_end (read_line profile text) ≡ true → fixed_after m before text (layout_of before text) ≡ next
    → fixed_by m before (lines_left profile rest) ≡ total → next ≡ total
fixed_end m profile before next rest text behind total cut closed after so_far =
    let opened : fixed_by m before (lines_left profile rest) ≡ fixed_after m before text (layout_of before text) = rw (cut, closed) refl in
    sym (opened ∙ after) ∙ so_far

-- no line is left
pub done : (m : all.Mending) (profile : Profile) (before : Context) (fs : List Found) (rest : List ℕ) (total : List all.Found) → length rest ≡ 0
    → found_all fs ++ found_lines m before (lines_left profile rest) ≡ total → found_all fs ≡ total
done m profile before fs rest total empty so_far = sym (nothing_after (found_all fs)) ∙ sym (rw (no_lines rest empty) refl) ∙ so_far

pub fixed_done : (m : all.Mending) (profile : Profile) (before : Context) (rest : List ℕ) (total : Context) → length rest ≡ 0
    → fixed_by m before (lines_left profile rest) ≡ total → before ≡ total
fixed_done m profile before rest total empty so_far = sym (rw (no_lines rest empty) refl) ∙ so_far

-- before the first line
pub starts : (m : all.Mending) (profile : Profile) (names : Definitions) (source : List ℕ) → names ≡ []
    → found_lines m (record { profile = profile; address = 0; names = names }) (lines_left profile source)
    ≡ found_lines m (first_context profile) (read_lines profile source)
unfolding read_lines
starts m profile names source none = rw none refl

pub fixed_starts : (m : all.Mending) (profile : Profile) (names : Definitions) (source : List ℕ) → names ≡ []
    → fixed_by m (record { profile = profile; address = 0; names = names }) (lines_left profile source)
    ≡ fixed_by m (first_context profile) (read_lines profile source)
unfolding read_lines
fixed_starts m profile names source none = rw none refl

-- one more is as many as lines
pub counted : (fs new : List Found) (f : Found) (n : ℕ) → new ≡ fs ++ f ∷ [] → length fs + 1 ≡ n → length new + 1 ≡ n + 1
counted fs new f n is so_far = rw (is, length-append fs (f ∷ []), so_far) refl

-- and the last one has the number of its line
abbrev nothing : List Found
nothing = []

all_numbered : (n : ℕ) (fs : List Found) (f : Found) → AreNumbered n fs → HasNumber (n + length fs) f → AreNumbered n (fs ++ f ∷ [])
all_numbered n [] f so_far is =
    let none : n + length (nothing) ≡ n = omega arith in
    (subst (λ m. HasNumber m f) none is, tt)
all_numbered n (x ∷ xs) f so_far is =
    let one : n + length (x ∷ xs) ≡ n + 1 + length xs = omega arith in
    (so_far.0, all_numbered (n + 1) xs f so_far.1 (subst (λ m. HasNumber m f) one is))

pub one_numbered : (fs new : List Found) (f : Found) (n : ℕ) → new ≡ fs ++ f ∷ [] → length fs + 1 ≡ n → AreNumbered 1 fs → HasNumber n f → AreNumbered 1 new
one_numbered fs new f n is count so_far numbered =
    let at : n ≡ 1 + length fs = omega (arith, count) in
    rw is (all_numbered 1 fs f so_far (subst (λ m. HasNumber m f) at numbered))
