-- What is written of the faults or the warnings of a source: a block for each. Source: mos65.
use Rattle.std.specs.Prelude.{◌≡◌, ℕ, ◌+◌, ◌%◌, nat_lt, ◌==◌, if◌then◌else◌, List, [], ◌∷◌, ◌++◌, Option}
use Rattle.std.specs.Fmt.{decimal}
use Rattle.source_notes.specs.Lines.{line_of, line_or_none}
use Rattle.source_notes.specs.Places.{place_of}
use Rattle.source_notes.specs.Shown.{after_head}
use Rattle.source_notes.specs.declared.note.Note.{Note}
use Rattle.source_notes.specs.declared.wording.TheConstants.{AND_MORE}

-- The column of the first byte that a note means, counted from 1; 65,536 bytes further it begins
-- again.
abbrev pub column_of : Note → ℕ
column_of note = note.start % 65536 + 1

-- A block: `FILE:LINE:COLUMN: ` and a title, and then the note's words and the line with a mark, if
-- there is a line.
abbrev pub block_of : List ℕ → ℕ → List ℕ → Option (List ℕ) → Note → List ℕ
block_of file number title line note
    = place_of file number (column_of note) ++ (title ++ after_head line note)

-- How the blocks of faults, or of warnings, are made: the number of the line that one is in, its
-- title, and which notes fit it, by the text of that line.
pub record BlockKind (T : Type 0) : Type 1 where
  pub number : T → ℕ
  pub title : T → List ℕ
  pub Fits : T → List ℕ → Note → Type 0

-- A block of one fault or warning among the lines of a source. A line that is not there has no
-- bytes.
pub record IsBlock {T : Type 0} (kind : BlockKind T) (file : List ℕ) (lines : List (List ℕ))
    (one : T) (block : List ℕ) : Type 0 where
  pub note : Note
  pub fits : kind.Fits one (line_or_none (line_of lines (kind.number one))) note
  pub text : block ≡ block_of file (kind.number one) (kind.title one)
      (line_of lines (kind.number one)) note

-- A block for each, one after another.
abbrev pub AreBlocks : {T : Type 0} → BlockKind T → List ℕ → List (List ℕ) → List T → List ℕ
    → Type 0
AreBlocks kind file lines [] text = text ≡ []
AreBlocks kind file lines (one ∷ others) text = (block : List ℕ) × (rest : List ℕ)
    × IsBlock kind file lines one block × (text ≡ block ++ rest)
    × AreBlocks kind file lines others rest

-- How many there are, with the word for one or for any other count, and before it whether there are
-- more than get a block.
abbrev pub total_of : List ℕ → List ℕ → ℕ → List ℕ
total_of one many count = (if nat_lt 50 count then AND_MORE.now else []) ++ decimal count
    ++ (if count == 1 then one else many)
