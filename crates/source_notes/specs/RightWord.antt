-- The right word of a note. Source: mos65.
use Rattle.std.specs.Prelude.{◌≡◌, ℕ, List, ◌++◌, Option, Vec}
use Rattle.std.specs.Option.{option_map}
use Rattle.source_notes.specs.declared.note.Note.{Note}

-- The word that is right in place of the bytes that a note means, if it has one.
abbrev pub right_of : Note → Option (List ℕ)
right_of note = option_map (λ word. word.items) note.right

-- A word stands among some words.
abbrev pub Names : List ℕ → List ℕ → Type 0
Names words word = (front : List ℕ) × (back : List ℕ) × (words ≡ front ++ word ++ back)
