-- Lines cut from a source one after another, and looked up by their index.
use Rattle.std.proofs.Common.{◌≡◌, ℕ, ℤ, Result, Ok, Err, length-append, zero, suc, ◌+◌, ◌-◌, ◌<◌, ◌≤◌, List, [], ◌∷◌, ◌++◌, length, take, drop, min, Option, Some, None, Bool, true, false, true≢false, inl, inr, refl, sym, ◌∙◌, ap, arith, length-drop}
use Rattle.std.specs.Prelude.{if◌then◌else◌, pos, map, position, slice_get, is_ok, OnOk}
use Rattle.std.specs.Io.BufRead.{strip_last}
use Rattle.std.specs.Option.{option_map, option_to_list}
use Rattle.line_parts.specs.Spans.{pair_of, pairs_of}
use Rattle.line_parts.specs.declared.span.Span.{Span}
use Rattle.std.proofs.lemmas.List.Elements.{filter_map-append}
use Rattle.std.proofs.lemmas.List.{drop-drop, drop_min, length-map, length-take, length_push, map-append, take_all, take_min}
use Rattle.std.proofs.Math.Seq.{take-add}
use Rattle.std.proofs.Math.Nat.{min-le_left, min-le_right}
use Rattle.std.proofs.lemmas.Option.{slice_get-map, slice_get_cases, slice_get_past}
use Rattle.line_parts.proofs.CutAtLineFeed.{is_end, lines_of-cut, lines_of-uncut}
use Rattle.model.specs.Layout.{◌>>>◌, Context, PlacedLine, PlacedAndContext, PlacedAndNext, IsLaidOut, empty_and_next, extent_of, extents_of, is_defined, is_full, layout_of, line_at as line_placed, name_of, named_line_at, or_too_many, placed_and_context, placing_value, statement_at, unless_full}
use Rattle.model.specs.Names.{Definitions, number_in}
use Rattle.model.specs.Value.{eval_of}
use Rattle.model.specs.declared.source_fault.AsmFaultKind.{AsmFaultKind}
use Rattle.model.specs.declared.source_fault.AsmFaultKind.TheVariants.{DuplicateName, TooManyNames}
use Rattle.assembler.specs.Found.{Found, with_line, with_line_found}
use Rattle.model.specs.Source.{is_end as ends, first_context, read_lines, up_to_end}
use Rattle.model.specs.SourceLine.{Line, labelled, definition, read_line}
use Rattle.model.specs.TextLines.{lines_of}
use Rattle.model.specs.declared.instruction.Profile.{Profile}
use Rattle.assembler.specs.Assembly.{AreRead, AssemblyView, source_lines}
use Rattle.assembler.specs.Lines.{LineView, is_instruction_in, labels_in, lines_with, names_label, placed_lines, reads_label}
use Rattle.assembler.specs.Texts.{AreTexts, instructions_of, text_in, texts_in}
use Rattle.assembler.specs.declared.source_line.LineText.{LineText}

-- ---- a line that is cut

-- a part of a text
pub text_cut : (text : List ℕ) (at count : ℕ) → take (min count (length (drop (min at (length text)) text))) (drop (min at (length text)) text)
    ≡ take count (drop at text)
text_cut text at count = rw (drop_min at text) (take_min count (drop at text))

take_both : (n m : ℕ) (text : List ℕ) → n ≤ m → take n (take m text) ≡ take n text
take_both zero m text h = refl
take_both (suc n) zero text h = absurd (omega (arith, h))
take_both (suc n) (suc m) [] h = refl
take_both (suc n) (suc m) (b ∷ text) h = ap (λ (bs : List ℕ). b ∷ bs) (take_both n m text (omega (arith, h)))

pub first_cut : (text : List ℕ) (at len : ℕ) → position is_end text ≡ Some at → take len (take at text) ≡ strip_last 13 (take at text)
    → len ≤ length (take at text)
    → lines_of text ≡ take len text ∷ lines_of (drop (at + 1) text)
first_cut text at len met front inside =
    let behind : take (length text - (at + 1)) (drop (at + 1) text) ≡ drop (at + 1) text =
    take_all _ (drop (at + 1) text) (omega (arith, length-drop (at + 1) text)) in
    let line : strip_last 13 (take at text) ≡ take len text =
    sym front ∙ take_both len at text (omega (arith, inside, length-take at text, min-le_left at (length text))) in
    lines_of-cut text at met ∙ (ap (λ (l : List ℕ). l ∷ lines_of (take (length text - (at + 1)) (drop (at + 1) text))) line
    ∙ ap (λ (l : List ℕ). take len text ∷ lines_of l) behind)

pub first_uncut : (text : List ℕ) → 0 < length text → position is_end text ≡ None
    → lines_of text ≡ take (length text) text ∷ lines_of (drop (length text) text)
first_uncut text some met =
    let behind : take (length text - length text) (drop (length text) text) ≡ drop (length text) text =
    take_all _ (drop (length text) text) (omega (arith, length-drop (length text) text)) in
    let line : text ≡ take (length text) text = sym (take_all (length text) text (omega arith)) in
    lines_of-uncut text some met ∙ (ap (λ (l : List ℕ). l ∷ lines_of (take (length text - length text) (drop (length text) text))) line
    ∙ ap (λ (l : List ℕ). take (length text) text ∷ lines_of l) behind)

-- ---- lines, one after another

take_next : (lines : List (List ℕ)) (n : ℕ) (line : List ℕ) (more : List (List ℕ)) → drop n lines ≡ line ∷ more → take (n + 1) lines ≡ take n lines ++ line ∷ []
take_next lines n line more here = take-add n 1 lines ∙ ap (λ (ls : List (List ℕ)). take n lines ++ take 1 ls) here

pub drop_next : (lines : List (List ℕ)) (n : ℕ) (line : List ℕ) (more : List (List ℕ)) → drop n lines ≡ line ∷ more → drop (n + 1) lines ≡ more
drop_next lines n line more here = sym (drop-drop 1 n lines) ∙ ap (λ (ls : List (List ℕ)). drop 1 ls) here

pub no_texts : (profile : Profile) (source : List ℕ) → AreTexts profile source [] []
no_texts profile source = record { cut = refl; instructions = refl; named = refl }

-- whether the name of a line is a label
abbrev pub label_in : Profile → List ℕ → Option Bool
label_in profile text = reads_label (read_line profile text)

one_label : (profile : Profile) (line : List ℕ) → option_to_list (label_in profile line) ≡ labels_in profile (line ∷ [])
one_label profile line = by (label_in profile line) refl
  where
    by : (o : Option Bool) → label_in profile line ≡ o → option_to_list (label_in profile line) ≡ labels_in profile (line ∷ [])
    by None e = rw e refl
    by (Some b) e = rw e refl

-- the text of the next line
pub text_more : (profile : Profile) (source line : List ℕ) (more : List (List ℕ)) (texts : List LineText) (text : LineText) (labels : List Bool)
    (label : Option Bool) → AreTexts profile source texts labels
    → drop (length texts) (lines_of source) ≡ line ∷ more → text_in source text ≡ line → text.is_instruction ≡ is_instruction_in profile line
    → label ≡ label_in profile line
    → AreTexts profile source (texts ++ text ∷ []) (labels ++ option_to_list label)
text_more profile source line more texts text labels label are here is code named =
    let lines = lines_of source in
    let n = length texts in
    let next : take (length (texts ++ text ∷ [])) lines ≡ take n lines ++ line ∷ [] =
    ap (λ (k : ℕ). take k lines) (length_push texts text) ∙ take_next lines n line more here in
    record {
      cut = map-append (text_in source) texts (text ∷ [])
          ∙ (ap (λ (ts : List (List ℕ)). ts ++ text_in source text ∷ []) are.cut ∙ (ap (λ (t : List ℕ). take n lines ++ t ∷ []) is ∙ sym next));
      instructions = map-append (λ (t : LineText). t.is_instruction) texts (text ∷ [])
          ∙ (ap (λ (cs : List Bool). cs ++ text.is_instruction ∷ []) are.instructions
          ∙ (ap (λ (c : Bool). map (is_instruction_in profile) (take n lines) ++ c ∷ []) code
          ∙ (sym (map-append (is_instruction_in profile) (take n lines) (line ∷ [])) ∙ sym (ap (map (is_instruction_in profile)) next))));
      named = ap (λ (ls : List Bool). ls ++ option_to_list label) are.named
          ∙ (ap (λ (o : Option Bool). labels_in profile (take n lines) ++ option_to_list o) named
          ∙ (ap (λ (ls : List Bool). labels_in profile (take n lines) ++ ls) (one_label profile line)
          ∙ (sym (filter_map-append (label_in profile) (take n lines) (line ∷ [])) ∙ sym (ap (labels_in profile) next))));
    }

-- ---- lines by their index

abbrev pub line_as : ℕ → List ℕ → ℕ × ℕ → Bool → LineView
line_as number text place is_code = record {
  number = number;
  address = place.0;
  count = place.1;
  text = text;
  is_instruction = is_code;
}

pub line_at : (i number : ℕ) (texts : List (List ℕ)) (places : List (ℕ × ℕ)) (codes : List Bool) (text : List ℕ) (place : ℕ × ℕ) (code : Bool)
    → slice_get texts i ≡ Some text → slice_get places i ≡ Some place → slice_get codes i ≡ Some code
    → slice_get (lines_with number texts places codes) i ≡ Some (line_as (number + i) text place code)
unfolding lines_with
line_at i number [] places codes text place code e f g = absurd cc
line_at i number (t ∷ texts) [] codes text place code e f g = absurd cc
line_at i number (t ∷ texts) (p ∷ places) [] text place code e f g = absurd cc
line_at zero number (t ∷ texts) (p ∷ places) (c ∷ codes) text place code e f g =
    let same : number ≡ number + 0 = omega arith in
    let made : Some (line_as number t p c) ≡ Some (line_as number text place code) = cc in
    made ∙ ap (λ (k : ℕ). Some (line_as k text place code)) same
line_at (suc i) number (t ∷ texts) (p ∷ places) (c ∷ codes) text place code e f g =
    let same : number + 1 + i ≡ number + suc i = omega arith in
    line_at i (number + 1) texts places codes text place code e f g ∙ ap (λ (k : ℕ). Some (line_as k text place code)) same

pub lines_length : (number : ℕ) (texts : List (List ℕ)) (places : List (ℕ × ℕ)) (codes : List Bool) → length places ≤ length texts
    → length codes ≡ length places
    → length (lines_with number texts places codes) ≡ length places
unfolding lines_with
lines_length number [] [] codes h e = refl
lines_length number [] (p ∷ places) codes h e = absurd (omega (arith, h))
lines_length number (t ∷ texts) [] codes h e = refl
lines_length number (t ∷ texts) (p ∷ places) [] h e = absurd (omega (arith, e))
lines_length number (t ∷ texts) (p ∷ places) (c ∷ codes) h e = rw (lines_length (number + 1) texts places codes (omega (arith, h)) (omega (arith, e))) refl

-- no more texts than lines
pub texts_few : (source : List ℕ) (texts : List LineText) → texts_in source texts ≡ take (length texts) (lines_of source)
    → length texts ≤ length (lines_of source)
texts_few source texts cut =
    let same : length (take (length texts) (lines_of source)) ≡ length texts = sym (ap length cut) ∙ length-map texts (text_in source) in
    omega (arith, same, length-take (length texts) (lines_of source), min-le_right (length texts) (length (lines_of source)))

-- what stands in the front of a list stands in the list
got_behind : (lines : List (List ℕ)) (n i : ℕ) (line : List ℕ) → slice_get (take n lines) i ≡ Some line → slice_get lines i ≡ Some line
got_behind [] zero i line e = absurd cc
got_behind [] (suc n) i line e = absurd cc
got_behind (l ∷ lines) zero i line e = absurd cc
got_behind (l ∷ lines) (suc n) zero line e = e
got_behind (l ∷ lines) (suc n) (suc i) line e = got_behind lines n i line e

abbrev pub lines_by : List ℕ → List Span → List LineText → List LineView
lines_by source spans texts = lines_with 1 (lines_of source) (pairs_of spans) (instructions_of texts)

pub count_by : (source : List ℕ) (spans : List Span) (texts : List LineText) → length texts ≡ length spans
    → texts_in source texts ≡ take (length texts) (lines_of source)
    → length (lines_by source spans texts) ≡ length spans
count_by source spans texts paired cut =
    let places : length (pairs_of spans) ≡ length spans = length-map spans pair_of in
    let codes : length (instructions_of texts) ≡ length texts = length-map texts (λ (t : LineText). t.is_instruction) in
    lines_length 1 (lines_of source) (pairs_of spans) (instructions_of texts) (omega (arith, places, paired, texts_few source texts cut))
    (omega (arith, places, codes, paired)) ∙ places

past_end : (spans : List Span) (i : ℕ) → slice_get spans i ≡ None → length spans ≤ i
past_end spans i none = elim (slice_get_cases spans i).1 [
  | inl there ↦ let some : slice_get spans i ≡ Some there.0 = there.2 in absurd cc
  | inr past ↦ past.0
]

-- no line is there
pub none_there : (source : List ℕ) (spans : List Span) (texts : List LineText) (i : ℕ) → length texts ≡ length spans
    → texts_in source texts ≡ take (length texts) (lines_of source)
    → slice_get spans i ≡ None → slice_get (lines_by source spans texts) i ≡ None
none_there source spans texts i paired cut none =
    let count : length (lines_by source spans texts) ≡ length spans = count_by source spans texts paired cut in
    let past : length spans ≤ i = past_end spans i none in
    slice_get_past (lines_by source spans texts) i (omega (arith, count, past))

-- the line that is there
pub line_there : (source : List ℕ) (spans : List Span) (texts : List LineText) (i : ℕ) (span : Span) (text : LineText)
    → texts_in source texts ≡ take (length texts) (lines_of source)
    → slice_get spans i ≡ Some span → slice_get texts i ≡ Some text
    → slice_get (lines_by source spans texts) i ≡ Some (line_as (i + 1) (text_in source text) (pair_of span) text.is_instruction)
line_there source spans texts i span text cut here there =
    let front : slice_get (take (length texts) (lines_of source)) i ≡ Some (text_in source text) =
    sym (ap (λ (ls : List (List ℕ)). slice_get ls i) cut) ∙ (slice_get-map (text_in source) texts i ∙ ap (option_map (text_in source)) there) in
    let line = got_behind (lines_of source) (length texts) i (text_in source text) front in
    let place : slice_get (pairs_of spans) i ≡ Some (pair_of span) = slice_get-map pair_of spans i ∙ ap (option_map pair_of) here in
    let code : slice_get (instructions_of texts) i ≡ Some text.is_instruction =
    slice_get-map (λ (t : LineText). t.is_instruction) texts i ∙ ap (option_map (λ (t : LineText). t.is_instruction)) there in
    let number : 1 + i ≡ i + 1 = omega arith in
    line_at i 1 (lines_of source) (pairs_of spans) (instructions_of texts) (text_in source text) (pair_of span) text.is_instruction line place code
    ∙ ap (λ (k : ℕ). Some (line_as k (text_in source text) (pair_of span) text.is_instruction)) number

-- ---- the lines that are read

-- only so many texts as have places count
lines_taken : (number : ℕ) (texts : List (List ℕ)) (places : List (ℕ × ℕ)) (codes : List Bool)
    → lines_with number texts places codes ≡ lines_with number (take (length places) texts) places codes
unfolding lines_with
lines_taken number [] [] codes = refl
lines_taken number [] (p ∷ places) codes = refl
lines_taken number (t ∷ texts) [] codes = refl
lines_taken number (t ∷ texts) (p ∷ places) [] = refl
lines_taken number (t ∷ texts) (p ∷ places) (c ∷ codes) = ap (λ (ls : List LineView). line_as number t p c ∷ ls) (lines_taken (number + 1) texts places codes)

read_after : (profile : Profile) (lines : List (List ℕ)) (ended : Bool) (next : Context) (ps : List PlacedLine) (all : Context)
    → (IsLaidOut next (up_to_end profile lines) ps all → take (length ps) lines ≡ up_to_end profile lines)
    → IsLaidOut next (if ended then [] else up_to_end profile lines) ps all → take (length ps) lines ≡ (if ended then [] else up_to_end profile lines)
read_after profile lines true next ps all later laid = let none : ps ≡ [] = laid.0 in rw none refl
read_after profile lines false next ps all later laid = later laid

-- the lines that have a place are those that are read
pub lines_read : (profile : Profile) (lines : List (List ℕ)) (before : Context) (placed : List PlacedLine) (all : Context)
    → IsLaidOut before (up_to_end profile lines) placed all
    → take (length placed) lines ≡ up_to_end profile lines
lines_read profile [] before placed all laid = let none : placed ≡ [] = laid.0 in rw none refl
lines_read profile (line ∷ lines) before [] all laid = absurd laid
lines_read profile (line ∷ lines) before (p ∷ ps) all laid =
    ap (λ (ls : List (List ℕ)). line ∷ ls) (read_after profile lines (ends (read_line profile line)) laid.0 ps all
    (λ (rest : IsLaidOut laid.0 (up_to_end profile lines) ps all). lines_read profile lines laid.0 ps all rest) laid.2)

pub lines_are : (profile : Profile) (source : List ℕ) (a : AssemblyView) (placed : List PlacedLine) (all : Context) → a.source ≡ source
    → AreRead profile a → a.places ≡ extents_of placed
    → IsLaidOut (first_context profile) (read_lines profile source) placed all → source_lines a ≡ placed_lines profile source placed
unfolding read_lines
lines_are profile source a placed all kept are places laid =
    let lines = lines_of source in
    let read : take (length placed) lines ≡ up_to_end profile lines = lines_read profile lines (first_context profile) placed all laid in
    let many : length a.instructions ≡ length placed = are.paired ∙ (ap length places ∙ length-map placed extent_of) in
    let codes = map (is_instruction_in profile) (up_to_end profile lines) in
    let told : a.instructions ≡ codes = are.instructions ∙ (ap (λ (k : ℕ). map (is_instruction_in profile) (take k (lines_of a.source))) many
    ∙ (ap (λ (s : List ℕ). map (is_instruction_in profile) (take (length placed) (lines_of s))) kept ∙ ap (map (is_instruction_in profile)) read)) in
    ap (λ (s : List ℕ). lines_with 1 (lines_of s) a.places a.instructions) kept
    ∙ (ap (λ (ps : List (ℕ × ℕ)). lines_with 1 lines ps a.instructions) places
    ∙ (ap (λ (cs : List Bool). lines_with 1 lines (extents_of placed) cs) told
    ∙ (lines_taken 1 lines (extents_of placed) codes
    ∙ ap (λ (ts : List (List ℕ)). lines_with 1 ts (extents_of placed) codes) (ap (λ (k : ℕ). take k lines) (length-map placed extent_of) ∙ read))))

pub labels_are : (profile : Profile) (source : List ℕ) (a : AssemblyView) (placed : List PlacedLine) (all : Context) → a.source ≡ source
    → AreRead profile a → a.places ≡ extents_of placed
    → IsLaidOut (first_context profile) (read_lines profile source) placed all → a.labels ≡ labels_in profile (read_lines profile source)
unfolding read_lines
labels_are profile source a placed all kept are places laid =
    let lines = lines_of source in
    let read : take (length placed) lines ≡ up_to_end profile lines = lines_read profile lines (first_context profile) placed all laid in
    let many : length a.instructions ≡ length placed = are.paired ∙ (ap length places ∙ length-map placed extent_of) in
    are.labels ∙ (ap (λ (k : ℕ). labels_in profile (take k (lines_of a.source))) many
    ∙ (ap (λ (s : List ℕ). labels_in profile (take (length placed) (lines_of s))) kept ∙ ap (labels_in profile) read))

-- ---- names and their labels

abbrev Placed : Type 0
Placed = Result PlacedAndContext AsmFaultKind

same_ok : (r s : PlacedAndContext) (a : Placed) → a ≡ Ok r → a ≡ Ok s → r ≡ s
same_ok r s a p q = cc

not_ok : (s : PlacedAndContext) (k : AsmFaultKind) (a : Placed) → a ≡ Err k → a ≡ Ok s → ⊥
not_ok s k a p q = cc

-- how many names a line adds
abbrev pub adds : Line → ℕ
adds l = length (option_to_list (names_label l))

placed_grown : (profile : Profile) (names : Definitions) (r : Result PlacedAndNext AsmFaultKind) (s : PlacedAndContext)
    → (r >>> λ place. Ok (placed_and_context profile names place)) ≡ Ok s
    → s.1.names ≡ names
placed_grown profile names (Ok place) s e = sym (ap (λ (p : PlacedAndContext). p.1.names)
    (same_ok (placed_and_context profile names place) s (Ok (placed_and_context profile names place)) refl e))
placed_grown profile names (Err k) s e = absurd (not_ok s k (Err k) refl e)

defined_grown : (before : Context) (name : List ℕ) (r : Result ℤ AsmFaultKind) (s : PlacedAndContext)
    → (r >>> λ v. Ok (placed_and_context before.profile (before.names ++ (name, v) ∷ []) (empty_and_next before.address before.address))) ≡ Ok s
    → length s.1.names ≡ length before.names + 1
defined_grown before name (Ok v) s e =
    let next = placed_and_context before.profile (before.names ++ (name, v) ∷ []) (empty_and_next before.address before.address) in
    sym (ap (λ (p : PlacedAndContext). length p.1.names) (same_ok next s (Ok next) refl e)) ∙ length-append before.names ((name, v) ∷ [])
defined_grown before name (Err k) s e = absurd (not_ok s k (Err k) refl e)

line_grown : (before : Context) (l : Line) (s : PlacedAndContext) → line_placed before l ≡ Ok s → length s.1.names ≡ length before.names + adds l
line_grown before (labelled None st) s e =
    ap length (placed_grown before.profile (before.names ++ []) (statement_at before.profile (number_in (before.names ++ [])) before.address st) s e)
    ∙ length-append before.names []
line_grown before (labelled (Some name) st) s e =
    let names = before.names ++ (name, pos before.address) ∷ [] in
    ap length (placed_grown before.profile names (statement_at before.profile (number_in names) before.address st) s e)
    ∙ length-append before.names ((name, pos before.address) ∷ [])
line_grown before (definition name e) s h = defined_grown before name (placing_value (eval_of (number_in before.names) (pos before.address) e)) s h

full_by : (full : Bool) (r : Placed) (s : PlacedAndContext) → unless_full full r ≡ Ok s → r ≡ Ok s
full_by false r s e = e
full_by true (Ok p) s e = absurd (not_ok s TooManyNames (Err TooManyNames) refl e)
full_by true (Err k) s e = absurd (not_ok s (or_too_many k) (Err (or_too_many k)) refl e)

known_by : (known full : Bool) (r : Placed) (s : PlacedAndContext) → (if known then Err DuplicateName else unless_full full r) ≡ Ok s → r ≡ Ok s
known_by true full r s e = absurd (not_ok s DuplicateName (Err DuplicateName) refl e)
known_by false full r s e = full_by full r s e

read_grown : (before : Context) (r : Result Line AsmFaultKind) (s : PlacedAndContext) → (r >>> λ l. named_line_at before l) ≡ Ok s
    → length s.1.names ≡ length before.names + length (option_to_list (reads_label r))
unfolding named_line_at
read_grown before (Ok l) s e = line_grown before l s (known_by (is_defined before.names (name_of l)) (is_full before.names (name_of l))
    (line_placed before l) s e)
read_grown before (Err k) s e = absurd (not_ok s k (Err k) refl e)

pub names_grown : (number : ℕ) (found new : Found) (before next : Context) (text : List ℕ)
    → with_line_found number found (layout_of before text) ≡ Ok (new, next)
    → (length next.names ≡ length before.names + length (option_to_list (label_in before.profile text))) × (length new.extents ≡ length found.extents + 1)
unfolding layout_of
names_grown number found new before next text e = by (layout_of before text) refl
  where
    both : (r s : Found × Context) (a : Result (Found × Context) AsmFaultKind) → Ok r ≡ a → a ≡ Ok s → r ≡ s
    both r s a p q = cc

    neither : (k : AsmFaultKind) (s : Found × Context) (a : Result (Found × Context) AsmFaultKind) → a ≡ Err k → a ≡ Ok s → ⊥
    neither k s a p q = cc

    by : (r : Placed) → layout_of before text ≡ r → (length next.names ≡ length before.names + length (option_to_list (label_in before.profile text)))
        × (length new.extents ≡ length found.extents + 1)
    by (Ok s) h =
        let there : Ok (with_line number found s.0, s.1) ≡ Ok (new, next) = sym (ap (with_line_found number found) h) ∙ e in
        let same = both (with_line number found s.0, s.1) (new, next) (Ok (new, next)) there refl in (
          sym (ap (λ (p : Found × Context). length p.1.names) same) ∙ read_grown before (read_line before.profile text) s h,
          sym (ap (λ (p : Found × Context). length p.0.extents) same) ∙ length-append found.extents (extent_of s.0 ∷ []),
        )
    by (Err k) h = absurd (neither k (new, next) (with_line_found number found (layout_of before text)) (ap (with_line_found number found) h) e)

-- ---- after one more line is noted

abbrev pub text_noted : ℕ → ℕ → Bool → LineText
text_noted start len code = record { start = start; len = len; is_instruction = code }

pub texts_step : (profile : Profile) (source : List ℕ) (start len : ℕ) (more : List (List ℕ)) (texts new : List LineText) (labels grown : List Bool)
    (code : Bool) (label : Option Bool)
    → AreTexts profile source texts labels → lines_of (drop start source) ≡ drop (length texts) (lines_of source)
    → lines_of (drop start source) ≡ take len (drop start source) ∷ more
    → code ≡ is_instruction_in profile (take len (drop start source)) → label ≡ reads_label (read_line profile (take len (drop start source)))
    → new ≡ texts ++ text_noted start len code ∷ [] → grown ≡ labels ++ option_to_list label → AreTexts profile source new grown
texts_step profile source start len more texts new labels grown code label are here cut coded named noted told =
    rw (noted, told) (text_more profile source (take len (drop start source)) more texts (text_noted start len code) labels label are (sym here ∙ cut)
    refl coded named)

pub here_step : (source line : List ℕ) (start next : ℕ) (texts new : List LineText) (text : LineText)
    → lines_of (drop start source) ≡ drop (length texts) (lines_of source)
    → lines_of (drop start source) ≡ line ∷ lines_of (drop next source) → new ≡ texts ++ text ∷ []
    → lines_of (drop next source) ≡ drop (length new) (lines_of source)
here_step source line start next texts new text here cut noted =
    let longer : length new ≡ length texts + 1 = ap length noted ∙ length_push texts text in
    sym (drop_next (lines_of source) (length texts) line (lines_of (drop next source)) (sym here ∙ cut)) ∙ ap (λ (k : ℕ). drop k (lines_of source)) (sym longer)

pub named_step : (number : ℕ) (found new : Found) (before next : Context) (text : List ℕ) (labels grown : List Bool) (label : Option Bool)
    → with_line_found number found (layout_of before text) ≡ Ok (new, next)
    → label ≡ reads_label (read_line before.profile text) → grown ≡ labels ++ option_to_list label → length labels ≡ length before.names
    → length grown ≡ length next.names
named_step number found new before next text labels grown label laid named told so_far =
    let more = (names_grown number found new before next text laid).0 in
    let many : length grown ≡ length labels + length (option_to_list label) = ap length told ∙ length-append labels (option_to_list label) in
    let same : length (option_to_list label) ≡ length (option_to_list (label_in before.profile text)) =
    ap (λ (o : Option Bool). length (option_to_list o)) named in
    omega (arith, more, many, same, so_far)

pub paired_step : (number : ℕ) (found new : Found) (before next : Context) (text : List ℕ) (texts longer : List LineText) (noted : LineText)
    → with_line_found number found (layout_of before text) ≡ Ok (new, next)
    → longer ≡ texts ++ noted ∷ [] → length texts ≡ length found.extents → length longer ≡ length new.extents
paired_step number found new before next text texts longer noted laid is so_far =
    let more = (names_grown number found new before next text laid).1 in
    let many : length longer ≡ length texts + 1 = ap length is ∙ length_push texts noted in
    omega (arith, more, many, so_far)

-- where the lines behind the next one stand
pub cut_step : (source line : List ℕ) (start size : ℕ) → lines_of (drop start source) ≡ line ∷ lines_of (drop size (drop start source))
    → lines_of (drop start source) ≡ line ∷ lines_of (drop (start + size) source)
cut_step source line start size cut = cut ∙ ap (λ (behind : List ℕ). line ∷ lines_of behind) (drop-drop size start source)

-- what holds of a value that was made, once its error is mapped
pub on_ok_mapped : {T U E F : Type 0} (r : Result T E) (s : Result U F) (u : U) (P : Type 0) → is_ok s ≡ is_ok r → s ≡ Ok u → OnOk r P → P
on_ok_mapped (Ok x) s u P same there held = held
on_ok_mapped (Err e) s u P same there held = absurd (true≢false (sym (ap is_ok there) ∙ same))
