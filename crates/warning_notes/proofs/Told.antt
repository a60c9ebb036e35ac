-- A note among names.
use Rattle.std.proofs.Common.{◌≡◌, ℕ, List, subst}
use Rattle.source_notes.specs.declared.note.Note.{Note}
use Rattle.warnings.specs.declared.kinds.WarningKind.{WarningKind}
use Rattle.warning_notes.specs.Notes.{IsNote}

-- a note among the same names
pub note_of_same : (names all : List (List ℕ × ℕ)) (kind : WarningKind) (number : ℕ) (line : List ℕ) (note : Note) → names ≡ all
    → IsNote names kind number line note → IsNote all kind number line note
note_of_same names all kind number line note same is = subst (λ (xs : List (List ℕ × ℕ)). IsNote xs kind number line note) same is
