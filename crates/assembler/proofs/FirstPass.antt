-- The first pass, line by line.
use Rattle.std.proofs.Common.{◌≡◌, ℕ, ◌+◌, true, false, List, [], ◌∷◌, length, Result, Ok, Err, refl, sym, ◌∙◌}
use Rattle.std.proofs.lemmas.List.{nil_from_length}
use Rattle.model.specs.TextLines.{lines_from, lines_of}
use Rattle.model.specs.declared.instruction.Profile.{Profile}
use Rattle.model.specs.declared.source_fault.AsmFault.{AsmFault}
use Rattle.model.specs.declared.source_fault.AsmFaultKind.{AsmFaultKind}
use Rattle.model.specs.SourceLine.{read_line}
use Rattle.model.specs.Layout.{Context, layout_of}
use Rattle.model.specs.Names.{Definitions}
use Rattle.model.specs.Source.{is_end, up_to_end, first_context, read_lines}
use Rattle.assembler.specs.Found.{Found, found_lines, nothing_found, with_line_found}

abbrev Total : Type 0
Total = Result (Found × Context) AsmFault

-- what is found in the end, from the lines that are left on
abbrev pub left : Profile → ℕ → Context → Found → List ℕ → Total
left profile number before found rest = found_lines number before found (up_to_end profile (lines_of rest))

no_lines : (text : List ℕ) → length text ≡ 0 → lines_of text ≡ []
unfolding lines_from
no_lines text empty = rw (nil_from_length text empty) refl

-- a line that others follow
pub goes_on : (profile : Profile) (number : ℕ) (before next : Context) (found new : Found) (rest text behind : List ℕ) (total : Total)
    → lines_of rest ≡ text ∷ lines_of behind → with_line_found number found (layout_of before text) ≡ Ok (new, next) → is_end (read_line profile text) ≡ false
    → left profile number before found rest ≡ total → left profile (number + 1) next new behind ≡ total
goes_on profile number before next found new rest text behind total cut here more so_far = sym (rw (cut, here, more) refl) ∙ so_far

-- the line of `.END`
pub ends : (profile : Profile) (number : ℕ) (before next : Context) (found new : Found) (rest text behind : List ℕ) (total : Total)
    → lines_of rest ≡ text ∷ lines_of behind → with_line_found number found (layout_of before text) ≡ Ok (new, next) → is_end (read_line profile text) ≡ true
    → left profile number before found rest ≡ total → total ≡ Ok (new, next)
ends profile number before next found new rest text behind total cut here closed so_far = sym so_far ∙ rw (cut, here, closed) refl

-- a line with a fault
pub fails : (profile : Profile) (number : ℕ) (before : Context) (found : Found) (rest text behind : List ℕ) (kind : AsmFaultKind) (total : Total)
    → lines_of rest ≡ text ∷ lines_of behind → with_line_found number found (layout_of before text) ≡ Err kind → left profile number before found rest ≡ total
    → total ≡ Err (record { line = number; kind = kind })
fails profile number before found rest text behind kind total cut bad so_far = sym so_far ∙ rw (cut, bad) refl

-- no line is left
pub done : (profile : Profile) (number : ℕ) (before : Context) (found : Found) (rest : List ℕ) (total : Total) → length rest ≡ 0
    → left profile number before found rest ≡ total → total ≡ Ok (found, before)
done profile number before found rest total empty so_far = sym so_far ∙ rw (no_lines rest empty) refl

-- before the first line
pub starts : (profile : Profile) (found : Found) (names : Definitions) (source : List ℕ) → found ≡ nothing_found → names ≡ []
    → left profile 1 (record { profile = profile; address = 0; names = names }) found source
    ≡ found_lines 1 (first_context profile) nothing_found (read_lines profile source)
unfolding read_lines
starts profile found names source none no_names = rw (none, no_names) refl
