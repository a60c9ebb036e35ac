-- Lines and what was found of them, one after another.
use Rattle.std.proofs.Common.{◌≡◌, ℕ, ◌+◌, ◌<◌, ◌≤◌, List, [], ◌∷◌, ◌++◌, length, drop, get_or, refl, sym, ap, ◌∙◌, ◌-◌, append_assoc, arith, length-append}
use Rattle.std.proofs.lemmas.List.{drop_more, drop_all, drop-drop, length-map, nil_from_length}
use Rattle.std.proofs.Math.Seq.{drop-nil}
use Rattle.model.specs.AllFaults as all
use Rattle.model.specs.TextLines.{lines_from, lines_of}
use Rattle.model.specs.declared.instruction.Profile.{Profile}
use Rattle.source_faults.specs.Views.{found_all, found_view}
use Rattle.source_faults.specs.declared.found.Found.{Found}
use Rattle.warnings.specs.Placed.{Placed, placed_line, placed_lines}
use Rattle.warnings.specs.Views.{placed_view, placed_views}
use Rattle.warnings.specs.declared.placed_line.PlacedLine.{PlacedLine}

pub no_lines : (text : List ℕ) → length text ≡ 0 → lines_of text ≡ []
unfolding lines_from
no_lines text empty = rw (nil_from_length text empty) refl

snoc : (ps : List PlacedLine) (p : PlacedLine) → placed_views (ps ++ p ∷ []) ≡ placed_views ps ++ placed_view p ∷ []
snoc [] p = refl
snoc (x ∷ xs) p = ap (λ (y : List Placed). placed_view x ∷ y) (snoc xs p)

-- one line more, as it is seen
pub placed_more : (ps new : List PlacedLine) (p : PlacedLine) (x : Placed) → new ≡ ps ++ p ∷ [] → placed_view p ≡ x
    → placed_views new ≡ placed_views ps ++ x ∷ []
placed_more ps new p x is view = ap placed_views is ∙ snoc ps p ∙ ap (λ (y : Placed). placed_views ps ++ y ∷ []) view

nothing_after : (ps : List Placed) → ps ++ [] ≡ ps
nothing_after [] = refl
nothing_after (p ∷ ps) = ap (λ (y : List Placed). p ∷ y) (nothing_after ps)

first_left : (fs : List Found) (i : ℕ) (f : Found) → i < length fs → f ≡ get_or fs i f → drop i fs ≡ f ∷ drop (i + 1) fs
first_left fs i f within is = drop_more fs i f within ∙ ap (λ (y : Found). y ∷ drop (i + 1) fs) (sym is)

-- what was put together so far, and what is left
abbrev pub so_on : Profile → List PlacedLine → List ℕ → ℕ → List Found → List Placed
so_on profile ps rest i fs = placed_views ps ++ placed_lines profile (lines_of rest) (found_all (drop i fs))

-- a line more
pub goes_on : (profile : Profile) (ps new : List PlacedLine) (rest text behind : List ℕ) (i : ℕ) (fs : List Found) (f : Found) (total : List Placed)
    → lines_of rest ≡ text ∷ lines_of behind → i < length fs → f ≡ get_or fs i f
    → placed_views new ≡ placed_views ps ++ placed_line profile text (found_view f) ∷ []
    → so_on profile ps rest i fs ≡ total → so_on profile new behind (i + 1) fs ≡ total
goes_on profile ps new rest text behind i fs f total cut within is view so_far =
    let left : List Placed = placed_lines profile (lines_of behind) (found_all (drop (i + 1) fs)) in
    let p : Placed = placed_line profile text (found_view f) in
    let opened : so_on profile ps rest i fs ≡ placed_views ps ++ p ∷ left = rw (cut, first_left fs i f within is) refl in
    ap (λ (x : List Placed). x ++ left) view ∙ append_assoc (placed_views ps) (p ∷ []) left ∙ sym opened ∙ so_far

-- no text is left
pub ends : (profile : Profile) (ps : List PlacedLine) (rest : List ℕ) (i : ℕ) (fs : List Found) (total : List Placed) → length rest ≡ 0
    → so_on profile ps rest i fs ≡ total → placed_views ps ≡ total
ends profile ps rest i fs total empty so_far = sym (nothing_after (placed_views ps)) ∙ sym (rw (no_lines rest empty) refl) ∙ so_far

no_found : (profile : Profile) (texts : List (List ℕ)) → placed_lines profile texts [] ≡ []
no_found profile [] = refl
no_found profile (text ∷ texts) = refl

-- nothing that was found is left
pub done : (profile : Profile) (ps : List PlacedLine) (rest : List ℕ) (i : ℕ) (fs : List Found) (total : List Placed) → length fs ≤ i
    → so_on profile ps rest i fs ≡ total → placed_views ps ≡ total
done profile ps rest i fs total past so_far =
    sym (nothing_after (placed_views ps)) ∙ sym (rw (drop_all i fs past, no_found profile (lines_of rest)) refl) ∙ so_far

-- the lines left over, a line on
pub left_on : (rest text behind : List ℕ) (i : ℕ) (all : List (List ℕ)) → lines_of rest ≡ text ∷ lines_of behind → lines_of rest ≡ drop i all
    → lines_of behind ≡ drop (i + 1) all
left_on rest text behind i all cut left =
    sym (drop_one text (lines_of behind)) ∙ ap (λ (y : List (List ℕ)). drop 1 y) (sym cut ∙ left) ∙ drop-drop 1 i all
  where
    drop_one : (x : List ℕ) (xs : List (List ℕ)) → drop 1 (x ∷ xs) ≡ xs
    drop_one x xs = refl

-- no line is left over
pub left_none : (rest : List ℕ) (i n : ℕ) (all : List (List ℕ)) → length rest ≡ 0 → i ≤ n → lines_of rest ≡ drop i all → lines_of rest ≡ drop n all
left_none rest i n all empty less left =
    let none : drop i all ≡ [] = sym left ∙ no_lines rest empty in
    let sum : i + (n - i) ≡ n = omega (arith, less) in
    no_lines rest empty ∙ sym (drop-nil (n - i)) ∙ ap (λ (y : List (List ℕ)). drop (n - i) y) (sym none) ∙ drop-drop (n - i) i all
    ∙ ap (λ (k : ℕ). drop k all) sum

-- one line more
pub one_more : (ps new : List PlacedLine) (x : Placed) (i : ℕ) → placed_views new ≡ placed_views ps ++ x ∷ [] → length ps ≤ i → length new ≤ i + 1
one_more ps new x i is few =
    let count : length new ≡ length ps + 1 =
    sym (length-map new placed_view) ∙ ap length is ∙ length-append (placed_views ps) (x ∷ []) ∙ ap (λ (n : ℕ). n + 1) (length-map ps placed_view) in
    omega (arith, few, count)
