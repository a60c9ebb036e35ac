-- What is marked of a line.
use Rattle.std.proofs.Common.{◌≡◌, ℕ, suc, ◌<◌, ◌∙◌, Bool, true, List, [], ◌∷◌, ◌++◌, length, drop, get_or, map, take, Option, Some, None, Result, Ok, Err, IfOk, refl, sym, ap, subst, inl, inr}
use Rattle.std.proofs.lemmas.Bool.{cases_Bool}
use Rattle.std.proofs.lemmas.List.{drop-map, get_or-map, length-map, take-map}
use Rattle.std.proofs.lemmas.List.Folds.{list_any_at}
use Rattle.std.proofs.lemmas.Result.{IfOk-weaker}
use Rattle.std.proofs.lemmas.Slice.Eq.{bytes_eq-Decides}
use Rattle.std.specs.Borrow.{Bor}
use Rattle.std.specs.List.{find}
use Rattle.std.specs.Str.{bytes_eq}
use Rattle.line_parts.specs.Lexemes.{lexeme_of, lexemes}
use Rattle.line_parts.specs.declared.token.Token.{Token}
use Rattle.model.specs.AllFaults.{Mending, fixed_after, found_lines}
use Rattle.model.specs.Expression.{Term}
use Rattle.model.specs.Layout.{Context, layout_of}
use Rattle.model.specs.Names.{Definitions}
use Rattle.model.specs.Reading.{expression_of}
use Rattle.model.specs.Source.{is_end, read_lines, up_to_end}
use Rattle.model.specs.SourceLine.{read_line}
use Rattle.model.specs.TextLines.{lines_of}
use Rattle.model.specs.declared.instruction.Profile.{Profile}
use Rattle.model.specs.declared.source_fault.AsmFault.{AsmFault}
use Rattle.source_notes.specs.Lines.{name_view, texts_of}
use Rattle.source_notes.specs.declared.lines.Name.{Name}
use Rattle.source_notes.specs.declared.note.Note.{Note}
use Rattle.source_notes.specs.Blocks.{AreBlocks}
use Rattle.fault_notes.specs.Blocks.{fault_blocks}
use Rattle.fault_notes.specs.Marks.{IsMeant, IsNote, IsPlain, IsRight, Known, Place, begins_line, expression_place, first_or, unless_read}

-- the tokens behind an expression
behind_expression : (index taken : ℕ) (tokens : List Token) → first_or index (lexemes (drop taken tokens)) ≡ first_or index (drop taken (lexemes tokens))
behind_expression index taken tokens = ap (first_or index) (sym (drop-map lexeme_of taken tokens))

pub left_marked : (index taken : ℕ) (tokens rest : List Token) (term : Term) → rest ≡ drop taken tokens
    → expression_of (lexemes tokens) ≡ Some (term, drop taken (lexemes tokens))
    → first_or index (lexemes rest) ≡ expression_place index tokens
left_marked index taken tokens rest term e found =
    ap (λ (r : List Token). first_or index (lexemes r)) e
    ∙ behind_expression index taken tokens
    ∙ ap (unless_read index (lexemes tokens)) (sym found)

pub none_marked : (index : ℕ) (tokens : List Token) → expression_of (lexemes tokens) ≡ None → first_or index (lexemes tokens) ≡ expression_place index tokens
none_marked index tokens none = ap (unless_read index (lexemes tokens)) (sym none)

-- a place without a right word
abbrev plain : Place → Place × Option (List ℕ)
plain place = (place, None)

pub marked_as : {E : Type 0} (result made : Result Note E) (place same : Place) → result ≡ made → place ≡ same → IfOk made (IsPlain place)
    → IfOk result (IsPlain same)
marked_as result (Ok note) place same is e marked = rw is (marked ∙ ap plain e)
marked_as result (Err fault) place same is e marked = rw is tt

pub not_marked : {E : Type 0} (result : Result Note E) (fault : E) (place : Place) → result ≡ Err fault → IfOk result (IsPlain place)
not_marked result fault place is = rw is tt

-- ---- the right word

-- a note without one
pub plain_note : (place : Place) (may_be : List ℕ → Bool) (note : Note) → IsPlain place note → IsNote place may_be note
plain_note place may_be note is = record {
  means = ap (λ (p : Place × Option (List ℕ)). p.0) is;
  right = subst (IsRight may_be note.words.items) (sym (ap (λ (p : Place × Option (List ℕ)). p.1) is)) tt;
}

pub plain_result : {E : Type 0} (result : Result Note E) (place : Place) (may_be : List ℕ → Bool) → IfOk result (IsPlain place)
    → IfOk result (IsNote place may_be)
plain_result result place may_be marked = IfOk-weaker result _ _ (λ note. plain_note place may_be note) marked

pub ruleset plain_steps = (plain_note, plain_result)

-- a name with which a line begins
pub line_name_at : (names : List Name) (i : ℕ) (d : Name) → i < length names → begins_line (map name_view names) (get_or names i d).text.now ≡ true
line_name_at names i d within =
    let text = (get_or names i d).text.now in
    let inside : i < length (map name_view names) = rw (length-map names name_view) within in
    list_any_at (λ (n : List ℕ × ℕ). bytes_eq n.0 text) (map name_view names) i (name_view d) inside
    (ap (λ (n : List ℕ × ℕ). bytes_eq n.0 text) (get_or-map name_view names i d (name_view d) within) ∙ (bytes_eq-Decides text text).1 refl)

-- ---- the first among two lists

pub found_first : (passes : Token → Bool) (xs ys : List Token) (token : Token) → find passes xs ≡ Some token → find passes (xs ++ ys) ≡ Some token
found_first passes [] ys token found = absurd cc
found_first passes (x ∷ xs) ys token found = elim (cases_Bool (passes x)) [
  | inl t ↦ rw t (rw t at found)
  | inr f ↦ rw f (found_first passes xs ys token (rw f at found))
]

pub found_behind : (passes : Token → Bool) (xs ys : List Token) → find passes xs ≡ None → find passes (xs ++ ys) ≡ find passes ys
found_behind passes [] ys none = refl
found_behind passes (x ∷ xs) ys none = elim (cases_Bool (passes x)) [
  | inl t ↦ let some : Some x ≡ None = rw t at none in absurd cc
  | inr f ↦ rw f (found_behind passes xs ys (rw f at none))
]

pub third_found : (passes : Token → Bool) (a b c xs ys zs : List Token) → a ≡ xs → b ≡ ys → c ≡ zs → find passes a ≡ None → find passes b ≡ None
    → find passes c ≡ find passes (xs ++ (ys ++ zs))
third_found passes a b c xs ys zs x y z no_a no_b =
    let first : find passes xs ≡ None = ap (find passes) (sym x) ∙ no_a in
    let second : find passes ys ≡ None = ap (find passes) (sym y) ∙ no_b in
    ap (find passes) z ∙ sym (found_behind passes xs (ys ++ zs) first ∙ found_behind passes ys zs second)

-- ---- the lines that are read

found_length : (m : Mending) (before : Context) (lines : List (List ℕ)) → length (found_lines m before lines) ≡ length lines
found_length m before [] = refl
found_length m before (line ∷ lines) = ap suc (found_length m (fixed_after m before line (layout_of before line)) lines)

read_front : (profile : Profile) (lines : List (List ℕ)) → take (length (up_to_end profile lines)) lines ≡ up_to_end profile lines
read_front profile [] = refl
read_front profile (line ∷ lines) = elim (cases_Bool (is_end (read_line profile line))) [
  | inl t ↦ rw t refl
  | inr f ↦ rw f (ap (λ (rest : List (List ℕ)). line ∷ rest) (read_front profile lines))
]

-- as many lines as were laid out are those that are read
pub lines_read : (m : Mending) (before : Context) (profile : Profile) (source : List ℕ) (count : ℕ) (lines : List (Bor (List ℕ)))
    → texts_of lines ≡ lines_of source
    → count ≡ length (found_lines m before (read_lines profile source)) → texts_of (take count lines) ≡ read_lines profile source
unfolding read_lines
lines_read m before profile source count lines same e =
    sym (take-map (λ slice. slice.now) count lines)
    ∙ ap (λ (all : List (List ℕ)). take count all) same
    ∙ ap (λ (n : ℕ). take n (lines_of source)) (e ∙ found_length m before (up_to_end profile (lines_of source)))
    ∙ read_front profile (lines_of source)

-- ---- what is known of a source

abbrev known : Profile → List (List ℕ × ℕ) → Definitions → Known
known profile names numbers = record { profile = profile; names = names; numbers = numbers }

pub known_same : (profile : Profile) (names ns : List (List ℕ × ℕ)) (numbers ds : Definitions) → names ≡ ns → numbers ≡ ds
    → known profile names numbers ≡ known profile ns ds
known_same profile names ns numbers ds n d = rw (n, d) refl

pub blocks_as : {X E : Type 0} (items : X → List ℕ) (result : Result X E) (file : List ℕ) (lines same : List (List ℕ)) (one other : Known)
    (faults : List AsmFault) → lines ≡ same → one ≡ other
    → IfOk result (λ x. AreBlocks (fault_blocks (IsMeant one)) file lines faults (items x))
    → IfOk result (λ x. AreBlocks (fault_blocks (IsMeant other)) file same faults (items x))
blocks_as items result file lines same one other faults l k blocks =
    subst (λ (ls : List (List ℕ)). IfOk result (λ x. AreBlocks (fault_blocks (IsMeant other)) file ls faults (items x))) l
    (subst (λ (kn : Known). IfOk result (λ x. AreBlocks (fault_blocks (IsMeant kn)) file lines faults (items x))) k blocks)
