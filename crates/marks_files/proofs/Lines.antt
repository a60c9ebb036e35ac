-- The lines of a file of marks, one after another.
use Rattle.std.proofs.Common.{◌≡◌, ◌∙◌, ℕ, ◌+◌, List, [], ◌∷◌, length, Result, Ok, Err, sym, ap, refl, subst}
use Rattle.std.proofs.lemmas.List.{nil_from_length}
use Rattle.std.specs.Result.{IsErrAnd}
use Rattle.model.specs.TextLines.{lines_from, lines_of}
use Rattle.model.specs.declared.instruction.Profile.{Profile}
use Rattle.marks_files.specs.Marks.{Marks}
use Rattle.marks_files.specs.MarksFile.{IsErrorOf, IsMarksFile, Read, line_read, lines_read, then_read}
use Rattle.marks_files.specs.declared.fault.MarksError.{MarksError}
use Rattle.marks_files.specs.declared.fault.MarksError.TheVariants.{Fault, Memory}
use Rattle.marks_files.specs.declared.fault.MarksFault.{MarksFault}
use Rattle.marks_files.specs.declared.marks.Marks.{Marks as Held}

-- the lines that are still to be read
abbrev pub lines_left : Profile → ℕ → List ℕ → Marks → Read
lines_left profile number rest m = lines_read profile number (lines_of rest) m

-- one line, and then those behind it
next : (profile : Profile) (number : ℕ) (rest line behind : List ℕ) (m : Marks) (whole : Read) → lines_of rest ≡ line ∷ lines_of behind
    → lines_left profile number rest m ≡ whole
    → then_read (line_read profile number line m) (λ read. lines_left profile (number + 1) behind read) ≡ whole
unfolding lines_read
next profile number rest line behind m whole cut so_far =
    let here : lines_left profile number rest m ≡ then_read (line_read profile number line m) (λ read. lines_left profile (number + 1) behind read) =
    ap (λ (ls : List (List ℕ)). lines_read profile number ls m) cut in
    sym here ∙ so_far

pub one_more : (profile : Profile) (number : ℕ) (rest line behind : List ℕ) (old new : Marks) (whole : Read) → lines_of rest ≡ line ∷ lines_of behind
    → line_read profile number line old ≡ Ok new
    → lines_left profile number rest old ≡ whole → lines_left profile (number + 1) behind new ≡ whole
one_more profile number rest line behind old new whole cut made so_far =
    sym (ap (λ (r : Read). then_read r (λ read. lines_left profile (number + 1) behind read)) made) ∙ next profile number rest line behind old whole cut so_far

-- a line with a fault ends it, and so does memory
by_error : (read whole : Read) (further : Marks → Read) (e : MarksError) → IsErrorOf e read → then_read read further ≡ whole → IsErrorOf e whole
by_error read whole further (Fault f) is so_far = sym so_far ∙ ap (λ (r : Read). then_read r further) is
by_error read whole further Memory is so_far = tt

pub refused : (profile : Profile) (number : ℕ) (rest line behind : List ℕ) (old : Marks) (whole : Read) (e : MarksError) (r : Result Held MarksError)
    → lines_of rest ≡ line ∷ lines_of behind
    → IsErrorOf e (line_read profile number line old) → lines_left profile number rest old ≡ whole → IsErrAnd r (λ f. f ≡ e) → IsMarksFile r whole
refused profile number rest line behind old whole e (Ok m) cut is so_far passed = absurd passed
refused profile number rest line behind old whole e (Err f) cut is so_far passed =
    subst (λ (x : MarksError). IsErrorOf x whole) (sym passed)
    (by_error (line_read profile number line old) whole (λ read. lines_left profile (number + 1) behind read) e is
    (next profile number rest line behind old whole cut so_far))

no_lines : (text : List ℕ) → length text ≡ 0 → lines_of text ≡ []
unfolding lines_from
no_lines text empty = ap lines_of (nil_from_length text empty)

pub done : (profile : Profile) (number : ℕ) (rest : List ℕ) (m : Marks) (whole : Read) → length rest ≡ 0 → lines_left profile number rest m ≡ whole
    → whole ≡ Ok m
unfolding lines_read
done profile number rest m whole empty so_far =
    let none : lines_left profile number rest m ≡ Ok m = ap (λ (ls : List (List ℕ)). lines_read profile number ls m) (no_lines rest empty) in
    sym so_far ∙ none
