-- The values, line by line.
use Rattle.std.proofs.Common.{◌≡◌, ℕ, ◌+◌, ◌<◌, ◌≤◌, Bool, true, false, List, [], ◌∷◌, ◌++◌, length, drop, get_or, Option, Some, None, Result, Ok, Err, refl, sym, ◌∙◌, ap, length-append}
use Rattle.std.specs.Prelude.{if◌then◌else◌, ◌||◌}
use Rattle.std.proofs.lemmas.List.{drop_more, drop_all}
use Rattle.model.specs.State.{Map}
use Rattle.model.specs.Image.{with_bytes}
use Rattle.model.specs.Value.{Numbers}
use Rattle.model.specs.AllFaults as all
use Rattle.model.specs.AllFaults.{but_of_place, image_after, judged_found, judged_line, made_after, value_kind}
use Rattle.model.specs.Bytes.{has_bytes, has_port, line_bytes, lower, lowest, pieces_of, place_kinds, value_fault}
use Rattle.model.specs.Layout.{PlacedLine, no_bytes, size_of, unless}
use Rattle.model.specs.declared.source_fault.AsmFaultKind.{AsmFaultKind}
use Rattle.law_sources.specs.Judging.{image_with_line}
use Rattle.source_faults.specs.declared.found.Found.{Found}
use Rattle.source_faults.specs.declared.judging.Judged.{Judged}
use Rattle.source_faults.specs.Views.{found_all, made_of, refused_at, judged_views, found_view, judged_view}

abbrev Cells : Type 0
Cells = List (Option ℕ)

-- ---- one line

none_of : (new image : Cells) (kind : AsmFaultKind) → unless (Some kind) (Ok image) ≡ Ok new → ⊥
none_of new image kind e = cc

-- a line whose bytes were put has no fault
right_kind : (new made : Cells) (kind : Option AsmFaultKind) → unless kind (Ok made) ≡ Ok new → kind ≡ None
right_kind new made None e = refl
right_kind new made (Some kind) e = absurd (none_of new made kind e)

right_image : (new made : Cells) (kind : Option AsmFaultKind) → unless kind (Ok made) ≡ Ok new → new ≡ made
right_image new made None e = sym (same new made (Ok made) e refl)
  where
    same : (a b : Cells) (r : Result Cells AsmFaultKind) → r ≡ Ok a → r ≡ Ok b → b ≡ a
    same a b r p q = cc
right_image new made (Some kind) e = absurd (none_of new made kind e)

fault_kind : (kind : AsmFaultKind) (made : Cells) (k : Option AsmFaultKind) → unless k (Ok made) ≡ Err kind → k ≡ Some kind
fault_kind kind made None e = absurd (never e)
  where
    never : Ok made ≡ Err kind → ⊥
    never e = cc
fault_kind kind made (Some k) e = same k kind (Err k) refl e
  where
    same : (a b : AsmFaultKind) (r : Result Cells AsmFaultKind) → r ≡ Err a → r ≡ Err b → Some a ≡ Some b
    same a b r p q = cc

pub put_kind : (m : Map) (numbers : Numbers) (image new : Cells) (p : PlacedLine) → image_with_line m numbers image p ≡ Ok new
    → value_kind m numbers (made_of image false) p ≡ None
unfolding image_with_line value_kind
put_kind m numbers image new p e = right_kind new (with_bytes image p.address (line_bytes numbers p)) (value_fault m numbers image p) e

pub put_image : (m : Map) (numbers : Numbers) (image new : Cells) (p : PlacedLine) → image_with_line m numbers image p ≡ Ok new
    → new ≡ image_after numbers (made_of image false) p None
unfolding image_with_line image_after
put_image m numbers image new p e = right_image new (with_bytes image p.address (line_bytes numbers p)) (value_fault m numbers image p) e

pub put_fault : (m : Map) (numbers : Numbers) (image : Cells) (p : PlacedLine) (kind : AsmFaultKind) → image_with_line m numbers image p ≡ Err kind
    → value_kind m numbers (made_of image false) p ≡ Some kind
unfolding image_with_line value_kind
put_fault m numbers image p kind e = fault_kind kind (with_bytes image p.address (line_bytes numbers p)) (value_fault m numbers image p) e

-- a line without bytes
abbrev nothing_told : Option AsmFaultKind
nothing_told = None

abbrev pub plain : ℕ → PlacedLine
plain address = record { address = address; content = no_bytes }

pub plain_kind : (m : Map) (numbers : Numbers) (made : all.Made) (address : ℕ) → value_kind m numbers made (plain address) ≡ None
unfolding value_kind value_fault pieces_of place_kinds has_bytes has_port size_of lowest lower
plain_kind m numbers made address = by made.moved
  where
    by : (b : Bool) → (if b then nothing_told else nothing_told) ≡ nothing_told
    by true = refl
    by false = refl

pub plain_image : (numbers : Numbers) (made : all.Made) (address : ℕ) → image_after numbers made (plain address) None ≡ made.image
unfolding image_after line_bytes pieces_of
plain_image numbers made address = by made.moved
  where
    by : (b : Bool) → (if b then made.image else made.image) ≡ made.image
    by true = refl
    by false = refl

-- ---- all lines

snoc : (js : List Judged) (j : Judged) (rest : List all.Judged) → judged_views (js ++ j ∷ []) ++ rest ≡ judged_views js ++ judged_view j ∷ rest
snoc [] j rest = refl
snoc (x ∷ xs) j rest = ap (λ (y : List all.Judged). judged_view x ∷ y) (snoc xs j rest)

nothing_after : (js : List all.Judged) → js ++ [] ≡ js
nothing_after [] = refl
nothing_after (j ∷ js) = ap (λ (y : List all.Judged). j ∷ y) (nothing_after js)

first_left : (fs : List Found) (i : ℕ) (f : Found) → i < length fs → f ≡ get_or fs i f → drop i fs ≡ f ∷ drop (i + 1) fs
first_left fs i f within is = drop_more fs i f within ∙ ap (λ (y : Found). y ∷ drop (i + 1) fs) (sym is)

pub goes_on : (m : Map) (numbers : Numbers) (made next : all.Made) (js : List Judged) (j : Judged) (fs : List Found) (i : ℕ) (f : Found)
    (total : List all.Judged)
    → i < length fs → f ≡ get_or fs i f
    → judged_view j ≡ judged_line (found_view f) (value_kind m numbers made (found_view f).place)
    → next ≡ made_after numbers made (found_view f) (value_kind m numbers made (found_view f).place)
    → judged_views js ++ judged_found m numbers made (found_all (drop i fs)) ≡ total
    → judged_views (js ++ j ∷ []) ++ judged_found m numbers next (found_all (drop (i + 1) fs)) ≡ total
goes_on m numbers made next js j fs i f total within is judged after so_far =
    snoc js j (judged_found m numbers next (found_all (drop (i + 1) fs))) ∙ sym (rw (first_left fs i f within is, after, ← judged) refl) ∙ so_far

pub done : (m : Map) (numbers : Numbers) (made : all.Made) (js : List Judged) (fs : List Found) (i : ℕ) (total : List all.Judged) → length fs ≤ i
    → judged_views js ++ judged_found m numbers made (found_all (drop i fs)) ≡ total → judged_views js ≡ total
done m numbers made js fs i total past so_far = sym (nothing_after (judged_views js)) ∙ sym (rw (drop_all i fs past) refl) ∙ so_far

-- ---- what a line leaves

pub moved_kind : (m : Map) (numbers : Numbers) (image : Cells) (moved : Bool) (p : PlacedLine) (kind answer : Option AsmFaultKind) → moved ≡ true
    → kind ≡ value_fault m numbers image p
    → answer ≡ but_of_place kind → answer ≡ value_kind m numbers (made_of image moved) p
unfolding value_kind
moved_kind m numbers image moved p kind answer is found answered = rw (is, answered, found) refl

pub moved_image : (numbers : Numbers) (image : Cells) (moved : Bool) (p : PlacedLine) (kind : Option AsmFaultKind) → moved ≡ true
    → image ≡ image_after numbers (made_of image moved) p kind
unfolding image_after
moved_image numbers image moved p None is = rw is refl
moved_image numbers image moved p (Some kind) is = refl

pub fault_image : (numbers : Numbers) (made : all.Made) (p : PlacedLine) (kind : AsmFaultKind) → image_after numbers made p (Some kind) ≡ made.image
unfolding image_after
fault_image numbers made p kind = refl

abbrev judged_so : ℕ → Option AsmFaultKind → Option AsmFaultKind → all.Judged
judged_so address layout value = record { address = address; layout = layout; value = value }

pub refused_judged : (m : Map) (numbers : Numbers) (made : all.Made) (address : ℕ) (kind : AsmFaultKind)
    → judged_so address (Some kind) None ≡ judged_line (refused_at address kind) (value_kind m numbers made (plain address))
refused_judged m numbers made address kind = ap (judged_so address (Some kind)) (sym (plain_kind m numbers made address))

pub plain_judged : (m : Map) (numbers : Numbers) (made : all.Made) (address : ℕ)
    → judged_so address None None ≡ judged_so address None (value_kind m numbers made (plain address))
plain_judged m numbers made address = ap (judged_so address None) (sym (plain_kind m numbers made address))

-- a line that is refused
pub refused_made : (m : Map) (numbers : Numbers) (made : all.Made) (address : ℕ) (kind : AsmFaultKind)
    → made_of made.image true ≡ made_after numbers made (refused_at address kind) (value_kind m numbers made (plain address))
refused_made m numbers made address kind = rw (plain_kind m numbers made address, plain_image numbers made address) (by made.moved)
  where
    by : (b : Bool) → made_of made.image true ≡ made_of made.image (b || true || false)
    by true = refl
    by false = refl

abbrev plain_at : ℕ → Bool → all.Found
plain_at address begins = record { kind = None; place = plain address; begins = begins }

-- a `*=`
pub begins_made : (m : Map) (numbers : Numbers) (made : all.Made) (address : ℕ) (begins : Bool) → begins ≡ true
    → made_of made.image false ≡ made_after numbers made (plain_at address begins) (value_kind m numbers made (plain address))
begins_made m numbers made address begins is = rw (is, plain_kind m numbers made address, plain_image numbers made address) refl

-- another line without bytes
pub plain_made : (m : Map) (numbers : Numbers) (made : all.Made) (address : ℕ) (begins : Bool) → begins ≡ false
    → made_of made.image made.moved ≡ made_after numbers made (plain_at address begins) (value_kind m numbers made (plain address))
plain_made m numbers made address begins is = rw (is, plain_kind m numbers made address, plain_image numbers made address) (by made.moved)
  where
    by : (b : Bool) → made_of made.image b ≡ made_of made.image (b || false || false)
    by true = refl
    by false = refl

-- one more is as many as lines
pub counted : (js new : List Judged) (j : Judged) (n : ℕ) → new ≡ js ++ j ∷ [] → length js ≡ n → length new ≡ n + 1
counted js new j n is so_far = rw (is, length-append js (j ∷ []), so_far) refl
