-- The way over the lines of a file of notes.
use Rattle.std.proofs.Common.{◌≡◌, ℕ, ◌+◌, List, [], ◌∷◌, refl, ap, length, arith, Option, Some, None, Ok, Err}
use Rattle.model.specs.TextLines.{lines_from, lines_of}
use Rattle.word_page.specs.Notes.{Noted, Notes, behind, notes_from, with_line}
use Rattle.word_page.specs.declared.notes.NotesFault.TheVariants.{NoNote}

-- one line more
pub one_line : (number : ℕ) (notes more : List Noted) (line : List ℕ) (lines : List (List ℕ)) → with_line notes line ≡ Some more
    → notes_from number notes (line ∷ lines) ≡ notes_from (number + 1) more lines
unfolding notes_from
one_line number notes more line lines is = ap (λ (found : Option (List Noted)). behind number found (λ next. notes_from (number + 1) next lines)) is

-- a line that is no note
pub no_note : (number : ℕ) (notes : List Noted) (line : List ℕ) (lines : List (List ℕ)) → with_line notes line ≡ None
    → notes_from number notes (line ∷ lines) ≡ Err (NoNote number)
unfolding notes_from
no_note number notes line lines is = ap (λ (found : Option (List Noted)). behind number found (λ next. notes_from (number + 1) next lines)) is

-- no line is left
pub all_lines : (number : ℕ) (notes : List Noted) (text : List ℕ) → length text ≡ 0 → notes_from number notes (lines_of text) ≡ Ok notes
unfolding notes_from lines_from
all_lines number notes [] is = refl
all_lines number notes (b ∷ text) is = absurd (omega (arith, is))
