-- What is told, line by line.
use Rattle.std.proofs.Common.{◌≡◌, ℕ, ◌+◌, ◌<◌, ◌≤◌, List, [], ◌∷◌, ◌++◌, length, drop, get_or, Option, Some, None, refl, sym, ◌∙◌, ap, append_assoc}
use Rattle.std.proofs.lemmas.List.{drop_more, drop_all}
use Rattle.model.specs.AllFaults as all
use Rattle.model.specs.AllFaults.{before_told, told_by}
use Rattle.model.specs.declared.source_fault.AsmFault.{AsmFault}
use Rattle.model.specs.declared.source_fault.AsmFaultKind.{AsmFaultKind}
use Rattle.source_faults.specs.declared.judging.Judged.{Judged}
use Rattle.source_faults.specs.Views.{judged_views, judged_view}

abbrev Rule : Type 0
Rule = all.Judged → all.Judged → Option AsmFaultKind

first_left : (js : List Judged) (i : ℕ) (j : Judged) → i < length js → j ≡ get_or js i j → drop i js ≡ j ∷ drop (i + 1) js
first_left js i j within is = drop_more js i j within ∙ ap (λ (y : Judged). y ∷ drop (i + 1) js) (sym is)

nothing_after : (fs : List AsmFault) → fs ++ [] ≡ fs
nothing_after [] = refl
nothing_after (f ∷ fs) = ap (λ (y : List AsmFault). f ∷ y) (nothing_after fs)

-- what is told so far, and what is still to be told from a line on
abbrev pub so_on : Rule → List AsmFault → ℕ → List Judged → List Judged → List AsmFault
so_on rule faults i xs ys = faults ++ told_by rule (i + 1) (judged_views (drop i xs)) (judged_views (drop i ys))

opened : (rule : Rule) (faults : List AsmFault) (i : ℕ) (xs ys : List Judged) (x y : Judged) → i < length xs → i < length ys → x ≡ get_or xs i x
    → y ≡ get_or ys i y
    → so_on rule faults i xs ys ≡ faults ++ before_told (i + 1) (rule (judged_view x) (judged_view y))
    (told_by rule (i + 1 + 1) (judged_views (drop (i + 1) xs)) (judged_views (drop (i + 1) ys)))
opened rule faults i xs ys x y in_xs in_ys is_x is_y = rw (first_left xs i x in_xs is_x, first_left ys i y in_ys is_y) refl

-- a line of which nothing is told
pub passes : (rule : Rule) (faults : List AsmFault) (i : ℕ) (xs ys : List Judged) (x y : Judged) (total : List AsmFault) → i < length xs
    → i < length ys → x ≡ get_or xs i x → y ≡ get_or ys i y
    → rule (judged_view x) (judged_view y) ≡ None → so_on rule faults i xs ys ≡ total → so_on rule faults (i + 1) xs ys ≡ total
passes rule faults i xs ys x y total in_xs in_ys is_x is_y none so_far = sym (opened rule faults i xs ys x y in_xs in_ys is_x is_y ∙ rw none refl) ∙ so_far

-- a line with a fault
pub tells : (rule : Rule) (faults : List AsmFault) (i : ℕ) (xs ys : List Judged) (x y : Judged) (kind : AsmFaultKind) (total : List AsmFault)
    → i < length xs → i < length ys
    → x ≡ get_or xs i x → y ≡ get_or ys i y → rule (judged_view x) (judged_view y) ≡ Some kind → so_on rule faults i xs ys ≡ total
    → so_on rule (faults ++ record { line = i + 1; kind = kind } ∷ []) (i + 1) xs ys ≡ total
tells rule faults i xs ys x y kind total in_xs in_ys is_x is_y some so_far =
    append_assoc faults (record { line = i + 1; kind = kind } ∷ []) (told_by rule (i + 1 + 1) (judged_views (drop (i + 1) xs)) (judged_views (drop (i + 1) ys)))
    ∙ sym (opened rule faults i xs ys x y in_xs in_ys is_x is_y ∙ rw some refl) ∙ so_far

-- no line is left in the first
pub done : (rule : Rule) (faults : List AsmFault) (i : ℕ) (xs ys : List Judged) (total : List AsmFault) → length xs ≤ i
    → so_on rule faults i xs ys ≡ total → faults ≡ total
done rule faults i xs ys total past so_far = sym (nothing_after faults) ∙ sym (rw (drop_all i xs past) refl) ∙ so_far

-- no line is left in the second
pub done_second : (rule : Rule) (faults : List AsmFault) (i : ℕ) (xs ys : List Judged) (total : List AsmFault) → length ys ≤ i
    → so_on rule faults i xs ys ≡ total → faults ≡ total
done_second rule faults i xs ys total past so_far = by (judged_views (drop i xs)) refl
  where
    by : (js : List all.Judged) → judged_views (drop i xs) ≡ js → faults ≡ total
    by [] is = sym (nothing_after faults) ∙ sym (rw is refl) ∙ so_far
    by (j ∷ js) is = sym (nothing_after faults) ∙ sym (rw (is, drop_all i ys past) refl) ∙ so_far
