-- What the two passes find is what is judged of a source.
use Rattle.std.proofs.Common.{◌≡◌, ℕ, ◌+◌, ◌≤◌, ◌<◌, Bool, true, false, List, [], ◌∷◌, ◌++◌, length, Option, Result, Ok, Err, ◌⊎◌, inl, inr, refl, sym, ◌∙◌, ap, append_assoc, append-nil}
use Rattle.std.specs.Prelude.{if◌then◌else◌, IsErrAnd}
use Rattle.std.proofs.lemmas.Bool.{lt-ltb, le-ltb}
use Rattle.model.specs.State.{Map}
use Rattle.model.specs.Image.{empty_image}
use Rattle.model.specs.Names.{Definitions, number_in}
use Rattle.model.specs.Value.{Numbers}
use Rattle.model.specs.Layout.{Content, no_bytes, byte_list, word_list, word_list_high_first, code, size_of, Context, PlacedLine, PlacedAndContext, extent_of, extents_of, layout_of}
use Rattle.model.specs.Bytes.{pieces_of, line_bytes, value_fault, has_bytes, has_port, place_kinds, lower, lowest}
use Rattle.model.specs.Source.{most_bytes, first_context, read_lines}
use Rattle.model.specs.declared.instruction.Profile.{Profile}
use Rattle.model.specs.declared.source_fault.AsmFault.{AsmFault}
use Rattle.model.specs.declared.source_fault.AsmFaultKind.{AsmFaultKind}
use Rattle.law_sources.specs.Judging.{Judgement, judgement, judgement_of_lines, layout_from, image_from, on_line, image_with_line, too_large, ◌>>=◌}
use Rattle.assembler.specs.Assembly.{AnswersSource, AssemblyView, Verdict, verdict_view, out_of_memory, verdict, verdict_of}
use Rattle.assembler.specs.Found.{Found, found_lines, is_kept, nothing_found, with_line, with_line_found}
use Rattle.emission.specs.Made.{image_of_lines}
use Rattle.line_parts.specs.KeptLines.{NumberedLine, numbered_line}

abbrev Cells : Type 0
Cells = List (Option ℕ)

abbrev Laid : Type 0
Laid = List PlacedLine × Context

abbrev found_as : List (ℕ × ℕ) → List NumberedLine → Found
found_as extents kept = record { extents = extents; kept = kept }

-- ---- the first pass

abbrev noting_all : ℕ → Found → List PlacedLine → Found
noting_all n f [] = f
noting_all n f (p ∷ ps) = noting_all (n + 1) (with_line n f p) ps

abbrev with_all : ℕ → Found → Laid → Found × Context
with_all n f l = (noting_all n f l.0, l.1)

abbrev behind : PlacedLine → Laid → Laid
behind p rest = (p ∷ rest.0, rest.1)

-- the lines of some that are kept, counted from a number on
abbrev kept_from : ℕ → List PlacedLine → List NumberedLine
kept_from n [] = []
kept_from n (p ∷ ps) = if is_kept p.content then numbered_line n p ∷ kept_from (n + 1) ps else kept_from (n + 1) ps

found_is : (lines : List (List ℕ)) (n : ℕ) (before : Context) (f : Found)
    → found_lines n before f lines ≡ (layout_from n before lines >>= λ l. Ok (with_all n f l))
found_is [] n before f = refl
found_is (line ∷ lines) n before f = by (λ (m : Context) (g : Found). found_is lines (n + 1) m g) (layout_of before line)
  where
    regroup : (s : PlacedAndContext) (r : Result Laid AsmFault)
        → (r >>= λ l. Ok (with_all (n + 1) (with_line n f s.0) l)) ≡ ((r >>= λ rest. Ok (behind s.0 rest)) >>= λ l. Ok (with_all n f l))
    regroup s (Ok l) = refl
    regroup s (Err e) = refl

    by : ((m : Context) (g : Found) → found_lines (n + 1) m g lines ≡ (layout_from (n + 1) m lines >>= λ l. Ok (with_all (n + 1) g l)))
        → (r : Result PlacedAndContext AsmFaultKind)
        → (on_line n (with_line_found n f r) >>= λ p. found_lines (n + 1) p.1 p.0 lines)
        ≡ ((on_line n r >>= λ p. layout_from (n + 1) p.1 lines >>= λ rest. Ok (behind p.0 rest)) >>= λ l. Ok (with_all n f l))
    by later (Ok s) = later s.1 (with_line n f s.0) ∙ regroup s (layout_from (n + 1) s.1 lines)
    by later (Err k) = refl

two : (e d : List (ℕ × ℕ)) (k j : List NumberedLine) → e ≡ d → k ≡ j → found_as e k ≡ found_as d j
two e d k j p q = ap (λ (x : List (ℕ × ℕ)). found_as x k) p ∙ ap (found_as d) q

noting_is : (ps : List PlacedLine) (n : ℕ) (f : Found) → noting_all n f ps ≡ found_as (f.extents ++ extents_of ps) (f.kept ++ kept_from n ps)
noting_is [] n f = two f.extents (f.extents ++ []) f.kept (f.kept ++ []) (sym (append-nil f.extents)) (sym (append-nil f.kept))
noting_is (p ∷ ps) n f =
    noting_is ps (n + 1) (with_line n f p)
    ∙ two ((f.extents ++ extent_of p ∷ []) ++ extents_of ps) (f.extents ++ extents_of (p ∷ ps)) _ _
    (append_assoc f.extents (extent_of p ∷ []) (extents_of ps)) (by (is_kept p.content))
  where
    by : (b : Bool) → (if b then f.kept ++ numbered_line n p ∷ [] else f.kept) ++ kept_from (n + 1) ps ≡ f.kept
        ++ (if b then numbered_line n p ∷ kept_from (n + 1) ps else kept_from (n + 1) ps)
    by true = append_assoc f.kept (numbered_line n p ∷ []) (kept_from (n + 1) ps)
    by false = refl

abbrev found_in : Laid → Found × Context
found_in l = (found_as (extents_of l.0) (kept_from 1 l.0), l.1)

found_all : (profile : Profile) (lines : List (List ℕ)) → found_lines 1 (first_context profile) nothing_found lines
    ≡ (layout_from 1 (first_context profile) lines >>= λ l. Ok (found_in l))
found_all profile lines = found_is lines 1 (first_context profile) nothing_found ∙ on (layout_from 1 (first_context profile) lines)
  where
    on : (r : Result Laid AsmFault) → (r >>= λ l. Ok (with_all 1 nothing_found l)) ≡ (r >>= λ l. Ok (found_in l))
    on (Ok l) = ap (λ (x : Found). Ok (x, l.1)) (noting_is l.0 1 nothing_found)
    on (Err e) = refl

-- ---- the second pass

-- a line without bytes changes no image
put_nothing : (m : Map) (numbers : Numbers) (image : Cells) (a : ℕ) → image_with_line m numbers image (record { address = a; content = no_bytes }) ≡ Ok image
unfolding image_with_line value_fault pieces_of place_kinds has_bytes has_port size_of lowest lower line_bytes
put_nothing m numbers image a = refl

kept_is : (m : Map) (numbers : Numbers) (ps : List PlacedLine) (n : ℕ) (image : Cells)
    → image_of_lines m numbers image (kept_from n ps) ≡ image_from m numbers n image ps
kept_is m numbers [] n image = refl
kept_is m numbers (p ∷ ps) n image = step (λ (i : Cells). kept_is m numbers ps (n + 1) i) p.address p.content
  where
    on : ((i : Cells) → image_of_lines m numbers i (kept_from (n + 1) ps) ≡ image_from m numbers (n + 1) i ps)
        → (r : Result Cells AsmFault) → (r >>= λ i. image_of_lines m numbers i (kept_from (n + 1) ps)) ≡ (r >>= λ i. image_from m numbers (n + 1) i ps)
    on later (Ok i) = later i
    on later (Err e) = refl

    step : ((i : Cells) → image_of_lines m numbers i (kept_from (n + 1) ps) ≡ image_from m numbers (n + 1) i ps)
        → (a : ℕ) (c : Content)
        → image_of_lines m numbers image (if is_kept c then numbered_line n (record { address = a; content = c })
        ∷ kept_from (n + 1) ps else kept_from (n + 1) ps)
        ≡ (on_line n (image_with_line m numbers image (record { address = a; content = c })) >>= λ i. image_from m numbers (n + 1) i ps)
    step later a no_bytes = rw (put_nothing m numbers image a) (later image)
    step later a (byte_list is) = on later (on_line n (image_with_line m numbers image (record { address = a; content = byte_list is })))
    step later a (word_list es) = on later (on_line n (image_with_line m numbers image (record { address = a; content = word_list es })))
    step later a (word_list_high_first es) = on later (on_line n (image_with_line m numbers image (record { address = a; content = word_list_high_first es })))
    step later a (code opcode mode e) = on later (on_line n (image_with_line m numbers image (record { address = a; content = code opcode mode e })))

-- ---- the source

abbrev judged_as : Laid → Cells → Judgement
judged_as l image = record { placed = l.0; all = l.1; image = image }

abbrev verdict_as : Cells → List (ℕ × ℕ) → Definitions → Verdict
verdict_as image places names = record { image = image; places = places; names = names }

-- what is judged of lines that stand so
abbrev judged_on : Map → Result Laid AsmFault → Result Verdict AsmFault
judged_on m r = (r >>= λ l. image_from m (number_in l.1.names) 1 empty_image l.0 >>= λ image. Ok (judged_as l image)) >>= λ j. Ok (verdict_of j)

small_verdict : (m : Map) (source : List ℕ) → length source ≤ most_bytes
    → verdict m source ≡ judged_on m (layout_from 1 (first_context m.profile) (read_lines m.profile source))
unfolding judgement judgement_of_lines
small_verdict m source small = rw (le-ltb most_bytes (length source) small) refl

pub verdict_large : (m : Map) (source : List ℕ) → most_bytes < length source → verdict m source ≡ Err too_large
unfolding judgement
verdict_large m source large = rw (lt-ltb most_bytes (length source) large) refl

abbrev FoundIn : Type 0
FoundIn = Result (Found × Context) AsmFault

same_ok : {A : Type 0} (x y : A) (a : Result A AsmFault) → a ≡ Ok x → a ≡ Ok y → x ≡ y
same_ok x y a p q = cc

ok_same : {A : Type 0} (x y : A) (a b : Result A AsmFault) → a ≡ Ok x → b ≡ Ok y → a ≡ b → x ≡ y
ok_same x y a b p q r = cc

err_same : {A : Type 0} (f g : AsmFault) (a b : Result A AsmFault) → a ≡ Err f → b ≡ Err g → a ≡ b → f ≡ g
err_same f g a b p q r = cc

not_both : {A : Type 0} (x : A) (f : AsmFault) (a b : Result A AsmFault) → a ≡ Ok x → b ≡ Err f → a ≡ b → ⊥
not_both x f a b p q r = cc

-- what the kept lines make is what all lines make
made_from : (m : Map) (l : Laid) (found : Found) (all : Context) (r : Result Cells AsmFault) → found_in l ≡ (found, all)
    → image_of_lines m (number_in all.names) empty_image found.kept ≡ r → image_from m (number_in l.1.names) 1 empty_image l.0 ≡ r
made_from m l found all r same made =
    let kept : kept_from 1 l.0 ≡ found.kept = ap (λ (x : Found × Context). x.0.kept) same in
    let fixed : l.1 ≡ all = ap (λ (x : Found × Context). x.1) same in
    sym (kept_is m (number_in l.1.names) l.0 1 empty_image) ∙ rw (kept, fixed) made

right_on : (m : Map) (r : Result Laid AsmFault) (found : Found) (all : Context) (image : Cells) → (r >>= λ l. Ok (found_in l)) ≡ Ok (found, all)
    → image_of_lines m (number_in all.names) empty_image found.kept ≡ Ok image → judged_on m r ≡ Ok (verdict_as image found.extents all.names)
right_on m (Ok l) found all image e made =
    let same : found_in l ≡ (found, all) = ok_same (found_in l) (found, all) (Ok (found_in l)) (Ok (found, all)) refl refl e in
    let extents : extents_of l.0 ≡ found.extents = ap (λ (x : Found × Context). x.0.extents) same in
    let fixed : l.1 ≡ all = ap (λ (x : Found × Context). x.1) same in
    rw (made_from m l found all (Ok image) same made) (ap (λ (x : List (ℕ × ℕ)). Ok (verdict_as image x l.1.names)) extents
    ∙ ap (λ (x : Context). Ok (verdict_as image found.extents x.names)) fixed)
right_on m (Err f) found all image e made = absurd (not_both (found, all) f (Ok (found, all)) (Err f) refl refl (sym e))

layout_on : (m : Map) (r : Result Laid AsmFault) (f : AsmFault) → (r >>= λ l. Ok (found_in l)) ≡ Err f → judged_on m r ≡ Err f
layout_on m (Ok l) f e = absurd (not_both (found_in l) f (Ok (found_in l)) (Err f) refl refl e)
layout_on m (Err g) f e = ap (λ (x : AsmFault). Err x) (err_same {A = Found × Context} g f (Err g) (Err f) refl refl e)

value_on : (m : Map) (r : Result Laid AsmFault) (found : Found) (all : Context) (f : AsmFault) → (r >>= λ l. Ok (found_in l)) ≡ Ok (found, all)
    → image_of_lines m (number_in all.names) empty_image found.kept ≡ Err f → judged_on m r ≡ Err f
value_on m (Ok l) found all f e made =
    let same : found_in l ≡ (found, all) = ok_same (found_in l) (found, all) (Ok (found_in l)) (Ok (found, all)) refl refl e in
    rw (made_from m l found all (Err f) same made) refl
value_on m (Err g) found all f e made = absurd (not_both (found, all) g (Ok (found, all)) (Err g) refl refl (sym e))

abbrev found_of_source : Map → List ℕ → FoundIn
found_of_source m source = found_lines 1 (first_context m.profile) nothing_found (read_lines m.profile source)

pub verdict_right : (m : Map) (source : List ℕ) (found : Found) (all : Context) (image : Cells) → length source ≤ most_bytes
    → found_lines 1 (first_context m.profile) nothing_found (read_lines m.profile source) ≡ Ok (found, all)
    → image_of_lines m (number_in all.names) empty_image found.kept ≡ Ok image
    → verdict m source ≡ Ok (record { image = image; places = found.extents; names = all.names })
verdict_right m source found all image small first second =
    small_verdict m source small ∙ right_on m (layout_from 1 (first_context m.profile) (read_lines m.profile source)) found all image
    (sym (found_all m.profile (read_lines m.profile source)) ∙ first) second

pub verdict_layout : (m : Map) (source : List ℕ) (f : AsmFault) → length source ≤ most_bytes
    → found_lines 1 (first_context m.profile) nothing_found (read_lines m.profile source) ≡ Err f → verdict m source ≡ Err f
verdict_layout m source f small first =
    small_verdict m source small ∙ layout_on m (layout_from 1 (first_context m.profile) (read_lines m.profile source)) f
    (sym (found_all m.profile (read_lines m.profile source)) ∙ first)

pub verdict_value : (m : Map) (source : List ℕ) (found : Found) (all : Context) (f : AsmFault) → length source ≤ most_bytes
    → found_lines 1 (first_context m.profile) nothing_found (read_lines m.profile source) ≡ Ok (found, all)
    → image_of_lines m (number_in all.names) empty_image found.kept ≡ Err f
    → verdict m source ≡ Err f
verdict_value m source found all f small first second =
    small_verdict m source small ∙ value_on m (layout_from 1 (first_context m.profile) (read_lines m.profile source)) found all f
    (sym (found_all m.profile (read_lines m.profile source)) ∙ first) second

-- ---- running out of memory

pub layout_answer : (m : Map) (source : List ℕ) (f : AsmFault) → length source ≤ most_bytes
    → (f ≡ out_of_memory) ⊎ (found_lines 1 (first_context m.profile) nothing_found (read_lines m.profile source) ≡ Err f) → (f ≡ out_of_memory)
    ⊎ (verdict m source ≡ Err f)
layout_answer m source f small (inl memory) = inl memory
layout_answer m source f small (inr first) = inr (verdict_layout m source f small first)

pub value_answer : (m : Map) (source : List ℕ) (found : Found) (all : Context) (f : AsmFault) → length source ≤ most_bytes
    → found_lines 1 (first_context m.profile) nothing_found (read_lines m.profile source) ≡ Ok (found, all)
    → (f ≡ out_of_memory) ⊎ (image_of_lines m (number_in all.names) empty_image found.kept ≡ Err f) → (f ≡ out_of_memory) ⊎ (verdict m source ≡ Err f)
value_answer m source found all f small first (inl memory) = inl memory
value_answer m source found all f small first (inr second) = inr (verdict_value m source found all f small first second)

pub passed_on : (given : Result Verdict AsmFault) (r : Result AssemblyView AsmFault) (f : AsmFault) → IsErrAnd r (λ e. e ≡ f) → (f ≡ out_of_memory)
    ⊎ (given ≡ Err f) → AnswersSource verdict_view r given
passed_on given (Ok a) f same h = absurd same
passed_on given (Err g) f same h = rw same h
