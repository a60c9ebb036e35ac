-- The first fault that is told is the source's, and of a source that denotes an image none is told.
use Rattle.std.proofs.Common.{◌≡◌, ℕ, ◌+◌, Bool, true, false, List, [], ◌∷◌, ◌++◌, length, Option, Some, None, Result, Ok, Err, refl, sym, ◌∙◌, ap}
use Rattle.std.specs.Prelude.{IfOk, if◌then◌else◌, slice_get, nat_lt}
use Rattle.std.specs.declared.alloc.AllocError.{AllocError}
use Rattle.std.specs.declared.alloc.Global.{Global}
use Rattle.std.specs.declared.vec.Vec.{Vec}
use Rattle.std.proofs.lemmas.Bool.{eq-eqb}
use Rattle.model.specs.State.{Map}
use Rattle.model.specs.Image.{empty_image, with_bytes}
use Rattle.model.specs.Names.{number_in}
use Rattle.model.specs.Value.{Numbers}
use Rattle.model.specs.Layout.{Context, PlacedLine, PlacedAndContext, layout_of}
use Rattle.model.specs.Bytes.{line_bytes, value_fault}
use Rattle.model.specs.Source.{Denotes, HasFault, most_bytes, first_context, read_lines}
use Rattle.model.specs.FaultNames.{source_fault_number}
use Rattle.model.specs.declared.source_fault.AsmFault.{AsmFault}
use Rattle.model.specs.declared.source_fault.AsmFaultKind.{AsmFaultKind}
use Rattle.model.specs.AllFaults.{Found, Judged, Made, Mending, faults_of, fixed_after, fixed_by, found_line, found_lines, image_after, in_both, judged_found, judged_lines, largest, layout_told, nothing_made, smallest, told, told_by, value_kind, value_told}
use Rattle.law_sources.specs.Judging.{DenotedIsJudged, FaultIsJudged, judgement_as, judgement, layout_from, image_from, on_line, image_with_line, too_large, ◌>>=◌}
use Rattle.law_sources.specs.Judging as judging

abbrev Cells : Type 0
Cells = List (Option ℕ)

abbrev Laid : Type 0
Laid = List PlacedLine × Context

abbrev behind : PlacedLine → Laid → Laid
behind p rest = (p ∷ rest.0, rest.1)

abbrev Lines : Type 0
Lines = List (List ℕ)

abbrev fault_on : ℕ → AsmFaultKind → AsmFault
fault_on n kind = record { line = n; kind = kind }

-- ---- answers that differ

not_both : {A : Type 0} (x : A) (f : AsmFault) (a b : Result A AsmFault) → a ≡ Ok x → b ≡ Err f → a ≡ b → ⊥
not_both x f a b p q r = cc

ok_err : {A : Type 0} (x : A) (f : AsmFault) → Ok x ≡ Err f → ⊥
ok_err x f e = not_both x f (Ok x) (Err f) refl refl e

err_same : {A : Type 0} (f g : AsmFault) (a b : Result A AsmFault) → a ≡ Err f → b ≡ Err g → a ≡ b → f ≡ g
err_same f g a b p q r = cc

ok_same : {A : Type 0} (x y : A) (a b : Result A AsmFault) → a ≡ Ok x → b ≡ Ok y → a ≡ b → x ≡ y
ok_same x y a b p q r = cc

-- ---- one kind in both

in_both_same : (kind : Option AsmFaultKind) → in_both kind kind ≡ kind
unfolding in_both
in_both_same None = refl
in_both_same (Some k) = rw (eq-eqb (source_fault_number k) (source_fault_number k) refl) refl

value_same : (j : Judged) → value_told j j ≡ j.value
value_same j = rw (eq-eqb j.address j.address refl) (in_both_same j.value)

-- ---- a line that is laid out, and the lines after it

record Step (n : ℕ) (before : Context) (line : List ℕ) (lines : Lines) (ps : List PlacedLine) (all : Context) : Type 0 where
  first : PlacedAndContext
  here : layout_of before line ≡ Ok first
  rest : List PlacedLine
  later : layout_from (n + 1) first.1 lines ≡ Ok (rest, all)
  parts : ps ≡ first.0 ∷ rest

step : (n : ℕ) (before : Context) (line : List ℕ) (lines : Lines) (ps : List PlacedLine) (all : Context)
    → layout_from n before (line ∷ lines) ≡ Ok (ps, all) → Step n before line lines ps all
step n before line lines ps all e = by (layout_of before line) refl e
  where
    onward : (s : PlacedAndContext) → layout_of before line ≡ Ok s → (r : Result Laid AsmFault) → layout_from (n + 1) s.1 lines ≡ r
        → (r >>= λ rest. Ok (behind s.0 rest)) ≡ Ok (ps, all) → Step n before line lines ps all
    onward s is (Ok l) later e =
        let same : (s.0 ∷ l.0, l.1) ≡ (ps, all) = ok_same (s.0 ∷ l.0, l.1) (ps, all) (Ok (s.0 ∷ l.0, l.1)) (Ok (ps, all)) refl refl e in
        record {
          first = s;
          here = is;
          rest = l.0;
          later = later ∙ ap (λ (x : Context). Ok (l.0, x)) (ap (λ (x : Laid). x.1) same);
          parts = sym (ap (λ (x : Laid). x.0) same);
        }
    onward s is (Err f) later e = absurd (ok_err (ps, all) f (sym e))

    by : (r : Result PlacedAndContext AsmFaultKind) → layout_of before line ≡ r
        → (on_line n r >>= λ p. layout_from (n + 1) p.1 lines >>= λ rest. Ok (behind p.0 rest)) ≡ Ok (ps, all) → Step n before line lines ps all
    by (Ok s) is e = onward s is (layout_from (n + 1) s.1 lines) refl e
    by (Err k) is e = absurd (ok_err (ps, all) (fault_on n k) (sym e))

-- ---- a fault of the layout

layout_first : (m : Map) (lines : Lines) (n : ℕ) (before : Context) (na nb : Numbers) (ma mb : Made) (fault : AsmFault) → layout_from n before lines ≡ Err fault
    → slice_get (told_by layout_told n (judged_found m na ma (found_lines smallest before lines))
    (judged_found m nb mb (found_lines largest before lines))) 0 ≡ Some fault
unfolding in_both
layout_first m [] n before na nb ma mb fault e = absurd (ok_err ([], before) fault e)
layout_first m (line ∷ lines) n before na nb ma mb fault e =
    by (λ s xa xb later. layout_first m lines (n + 1) s.1 na nb xa xb fault later) (layout_of before line) e
  where
    onward : (s : PlacedAndContext) (r : Result Laid AsmFault) → layout_from (n + 1) s.1 lines ≡ r → (r >>= λ rest. Ok (behind s.0 rest)) ≡ Err fault
        → layout_from (n + 1) s.1 lines ≡ Err fault
    onward s (Ok l) later e = absurd (ok_err (s.0 ∷ l.0, l.1) fault e)
    onward s (Err f) later e = later ∙ ap (λ (x : AsmFault). Err x) (err_same {A = Laid} f fault (Err f) (Err fault) refl refl e)

    by : ((s : PlacedAndContext) (xa xb : Made) → layout_from (n + 1) s.1 lines ≡ Err fault
        → slice_get (told_by layout_told (n + 1) (judged_found m na xa (found_lines smallest s.1 lines))
        (judged_found m nb xb (found_lines largest s.1 lines))) 0 ≡ Some fault)
        → (r : Result PlacedAndContext AsmFaultKind) → (on_line n r >>= λ p. layout_from (n + 1) p.1 lines >>= λ rest. Ok (behind p.0 rest)) ≡ Err fault
        → slice_get (told_by layout_told n (judged_found m na ma (found_line before line r ∷ found_lines smallest (fixed_after smallest before line r) lines))
        (judged_found m nb mb (found_line before line r ∷ found_lines largest (fixed_after largest before line r) lines))) 0 ≡ Some fault
    by later (Ok s) e = later s _ _ (onward s (layout_from (n + 1) s.1 lines) refl e)
    by later (Err k) e =
        rw (eq-eqb (source_fault_number k) (source_fault_number k) refl)
        (ap (λ (x : AsmFault). Some x) (err_same {A = Laid} (fault_on n k) fault (Err (fault_on n k)) (Err fault) refl refl e))

-- ---- no fault of the layout

found_same : (lines : Lines) (n : ℕ) (before : Context) (ps : List PlacedLine) (all : Context) → layout_from n before lines ≡ Ok (ps, all)
    → found_lines largest before lines ≡ found_lines smallest before lines
found_same [] n before ps all e = refl
found_same (line ∷ lines) n before ps all e =
    let s = step n before line lines ps all e in
    rw s.here (ap (λ (x : List Found). found_line before line (Ok s.first) ∷ x) (found_same lines (n + 1) s.first.1 s.rest all s.later))

fixed_same : (m : Mending) (lines : Lines) (n : ℕ) (before : Context) (ps : List PlacedLine) (all : Context)
    → layout_from n before lines ≡ Ok (ps, all) → fixed_by m before lines ≡ all
fixed_same m [] n before ps all e = ap (λ (x : Laid). x.1) (ok_same ([], before) (ps, all) (Ok ([], before)) (Ok (ps, all)) refl refl e)
fixed_same m (line ∷ lines) n before ps all e =
    let s = step n before line lines ps all e in
    rw s.here (fixed_same m lines (n + 1) s.first.1 s.rest all s.later)

no_layout : (m : Map) (lines : Lines) (n : ℕ) (before : Context) (ps : List PlacedLine) (all : Context) (numbers : Numbers) (made : Made)
    → layout_from n before lines ≡ Ok (ps, all)
    → told_by layout_told n (judged_found m numbers made (found_lines smallest before lines))
    (judged_found m numbers made (found_lines smallest before lines)) ≡ []
unfolding in_both
no_layout m [] n before ps all numbers made e = refl
no_layout m (line ∷ lines) n before ps all numbers made e =
    let s = step n before line lines ps all e in
    rw s.here (no_layout m lines (n + 1) s.first.1 s.rest all numbers _ s.later)

-- ---- the values

abbrev unmoved : Cells → Made
unmoved image = record { image = image; moved = false }

never : (b : Bool) → (if b then false else false) ≡ false
never true = refl
never false = refl

-- what is told of some lines that are all judged so
abbrev values : Map → Numbers → ℕ → Cells → List Found → List AsmFault
values m numbers n image fs = told_by value_told n (judged_found m numbers (unmoved image) fs) (judged_found m numbers (unmoved image) fs)

-- an answer about the image, and what is told
abbrev Agrees : Result Cells AsmFault → List AsmFault → Type 0
Agrees (Ok image) told = told ≡ []
Agrees (Err fault) told = slice_get told 0 ≡ Some fault

values_agree : (m : Map) (lines : Lines) (n : ℕ) (before : Context) (ps : List PlacedLine) (all : Context) (numbers : Numbers) (image : Cells)
    → layout_from n before lines ≡ Ok (ps, all)
    → Agrees (image_from m numbers n image ps) (values m numbers n image (found_lines smallest before lines))
unfolding image_with_line value_kind image_after in_both
values_agree m [] n before ps all numbers image e =
    let none : [] ≡ ps = ap (λ (x : Laid). x.0) (ok_same ([], before) (ps, all) (Ok ([], before)) (Ok (ps, all)) refl refl e) in
    rw (sym none) refl
values_agree m (line ∷ lines) n before ps all numbers image e =
    let s = step n before line lines ps all e in
    rw (s.parts, s.here) (by s.first s.rest (λ i. values_agree m lines (n + 1) s.first.1 s.rest all numbers i s.later)
    (value_fault m numbers image s.first.0) refl)
  where
    by : (s : PlacedAndContext) (rest : List PlacedLine) → ((i : Cells)
        → Agrees (image_from m numbers (n + 1) i rest) (values m numbers (n + 1) i (found_lines smallest s.1 lines))) → (kind : Option AsmFaultKind)
        → value_fault m numbers image s.0 ≡ kind
        → Agrees (image_from m numbers n image (s.0 ∷ rest)) (values m numbers n image (found_line before line (Ok s) ∷ found_lines smallest s.1 lines))
    by s rest later None is =
        rw (is, eq-eqb s.0.address s.0.address refl, never (found_line before line (Ok s)).begins)
        (later (with_bytes image s.0.address (line_bytes numbers s.0)))
    by s rest later (Some kind) is =
        rw (is, eq-eqb s.0.address s.0.address refl, eq-eqb (source_fault_number kind) (source_fault_number kind) refl) refl

-- ---- the source

head_stays : (xs ys : List AsmFault) (fault : AsmFault) → slice_get xs 0 ≡ Some fault → slice_get (xs ++ ys) 0 ≡ Some fault
head_stays [] ys fault e = absurd (none_some e)
  where
    none_some : None ≡ Some fault → ⊥
    none_some e = cc
head_stays (x ∷ xs) ys fault e = e

-- what two passes answer, and what is told
abbrev Tells : Result judging.Judgement AsmFault → List AsmFault → Type 0
Tells (Ok j) faults = faults ≡ []
Tells (Err fault) faults = slice_get faults 0 ≡ Some fault

-- what two passes answer after the first
abbrev continued : Map → Result Laid AsmFault → Result judging.Judgement AsmFault
continued m r = r >>= λ l. image_from m (number_in l.1.names) 1 empty_image l.0 >>= λ image. Ok (judgement_as l.0 l.1 image)

lines_tell : (m : Map) (lines : Lines) → Tells (judging.judgement_of_lines m lines) (told (judged_lines m smallest lines) (judged_lines m largest lines))
unfolding judging.judgement_of_lines judged_lines
lines_tell m lines = by (layout_from 1 (first_context m.profile) lines) refl
  where
    on : (l : Laid) (r : Result Cells AsmFault) (xs ys : List AsmFault) → xs ≡ [] → Agrees r ys
        → Tells (r >>= λ image. Ok (judgement_as l.0 l.1 image)) (xs ++ ys)
    on l (Ok image) xs ys none agree = rw (none, agree) refl
    on l (Err fault) xs ys none agree = rw none agree

    by : (r : Result Laid AsmFault) → layout_from 1 (first_context m.profile) lines ≡ r
        → Tells (continued m r) (told (judged_found m (number_in (fixed_by smallest (first_context m.profile) lines).names) nothing_made
        (found_lines smallest (first_context m.profile) lines))
        (judged_found m (number_in (fixed_by largest (first_context m.profile) lines).names) nothing_made
        (found_lines largest (first_context m.profile) lines)))
    by (Err fault) e =
        head_stays _ _ fault
        (layout_first m lines 1 (first_context m.profile) (number_in (fixed_by smallest (first_context m.profile) lines).names)
        (number_in (fixed_by largest (first_context m.profile) lines).names)
        nothing_made nothing_made fault e)
    by (Ok l) e =
        let start = first_context m.profile in
        let small : fixed_by smallest start lines ≡ l.1 = fixed_same smallest lines 1 start l.0 l.1 e in
        let large : fixed_by largest start lines ≡ l.1 = fixed_same largest lines 1 start l.0 l.1 e in
        let found : found_lines largest start lines ≡ found_lines smallest start lines = found_same lines 1 start l.0 l.1 e in
        rw (small, large, found)
        (on l (image_from m (number_in l.1.names) 1 empty_image l.0) _ _
        (no_layout m lines 1 start l.0 l.1 (number_in l.1.names) nothing_made e)
        (values_agree m lines 1 start l.0 l.1 (number_in l.1.names) empty_image e))

source_tells : (m : Map) (source : List ℕ) → Tells (judgement m source) (faults_of m source)
unfolding judgement faults_of
source_tells m source = by (nat_lt most_bytes (length source))
  where
    by : (b : Bool) → Tells (if b then Err too_large else judging.judgement_of_lines m (read_lines m.profile source))
        (if b then too_large ∷ [] else told (judged_lines m smallest (read_lines m.profile source)) (judged_lines m largest (read_lines m.profile source)))
    by true = refl
    by false = lines_tell m (read_lines m.profile source)

pub first_told : FaultIsJudged → (m : Map) (source : List ℕ) (faults : List AsmFault) → faults ≡ faults_of m source
    → (fault : AsmFault) → HasFault m source fault → slice_get faults 0 ≡ Some fault
first_told law m source faults is fault has =
    let answered : judgement m source ≡ Err fault = law m source fault has in
    rw is (rw answered at (source_tells m source))

pub none_told : DenotedIsJudged → (m : Map) (source : List ℕ) (faults : List AsmFault) → faults ≡ faults_of m source
    → (image : Cells) → Denotes m source image → faults ≡ []
none_told law m source faults is image denotes =
    let answered : judgement m source ≡ Ok (judgement_as denotes.placed denotes.all image) = law m source image denotes in
    rw is (rw answered at (source_tells m source))

-- ---- the answer

pub first_of : FaultIsJudged → (m : Map) (source : List ℕ) (r : Result (Vec AsmFault Global) AllocError) → IfOk r (λ faults. faults.items ≡ faults_of m source)
    → IfOk r (λ faults. (fault : AsmFault) → HasFault m source fault → slice_get faults.items 0 ≡ Some fault)
first_of law m source (Ok faults) is = λ fault has. first_told law m source faults.items is fault has
first_of law m source (Err e) is = tt

pub none_of : DenotedIsJudged → (m : Map) (source : List ℕ) (r : Result (Vec AsmFault Global) AllocError) → IfOk r (λ faults. faults.items ≡ faults_of m source)
    → IfOk r (λ faults. (image : Cells) → Denotes m source image → faults.items ≡ [])
none_of law m source (Ok faults) is = λ image denotes. none_told law m source faults.items is image denotes
none_of law m source (Err e) is = tt
