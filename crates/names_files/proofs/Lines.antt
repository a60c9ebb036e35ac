-- The lines of a file of names, one after another.
use Rattle.std.proofs.Common.{◌≡◌, ◌∙◌, ℕ, List, [], ◌∷◌, length, sym, ap}
use Rattle.std.proofs.lemmas.List.{nil_from_length}
use Rattle.model.specs.TextLines.{lines_from, lines_of}
use Rattle.model.specs.declared.instruction.Profile.{Profile}
use Rattle.names_files.specs.NamesFile.{Taken, more_lines, one_line_more}
use Rattle.names_files.specs.declared.form.Form.{Form}

-- the lines that are still to be read
abbrev pub lines_left : Form → Profile → List ℕ → Taken → Taken
lines_left form profile rest taken = more_lines form profile (lines_of rest) taken

pub one_more : (form : Form) (profile : Profile) (rest line behind : List ℕ) (old new whole : Taken) → lines_of rest ≡ line ∷ lines_of behind
    → new ≡ one_line_more form profile line old
    → lines_left form profile rest old ≡ whole → lines_left form profile behind new ≡ whole
unfolding more_lines
one_more form profile rest line behind old new whole cut made so_far =
    let here : lines_left form profile rest old ≡ lines_left form profile behind (one_line_more form profile line old) =
    ap (λ (ls : List (List ℕ)). more_lines form profile ls old) cut in
    ap (lines_left form profile behind) made ∙ sym here ∙ so_far

no_lines : (text : List ℕ) → length text ≡ 0 → lines_of text ≡ []
unfolding lines_from
no_lines text empty = ap lines_of (nil_from_length text empty)

pub done : (form : Form) (profile : Profile) (rest : List ℕ) (taken whole : Taken) → length rest ≡ 0 → lines_left form profile rest taken ≡ whole
    → taken ≡ whole
unfolding more_lines
done form profile rest taken whole empty so_far =
    let none : lines_left form profile rest taken ≡ taken = ap (λ (ls : List (List ℕ)). more_lines form profile ls taken) (no_lines rest empty) in
    sym none ∙ so_far
