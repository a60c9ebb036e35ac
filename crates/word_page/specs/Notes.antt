-- A file of notes at steps of a run: lines `STEP TEXT`. Source: mos65.
use Rattle.std.specs.Prelude.{◌≡◌, ⊤, ℕ, ◌+◌, ◌==◌, ◌&&◌, nat_lt, Bool, not, if◌then◌else◌, List, [], ◌∷◌, ◌++◌, codes, decimal, length, take, drop, Option, Some, None, Result, Ok, Err}
use Rattle.std.specs.List.{prefix_len}
use Rattle.lexer.specs.Front.{without_blanks}
use Rattle.arguments.specs.FaultLines.{fault_line, line_of}
use Rattle.arguments.specs.declared.refusal.Refusal.TheVariants.{OutOfMemory}
use Rattle.model.specs.Commands.{decimal_of}
use Rattle.model.specs.TextLines.{lines_of}
use Rattle.page_writer.specs.declared.opening.Note.{Note}
use Rattle.word_page.specs.declared.notes.NotesFault.{NotesFault}
use Rattle.word_page.specs.declared.notes.NotesFault.TheVariants.{NoNote, TooLong}
use Rattle.word_page.specs.declared.notes.NotesFault.TheVariants as notes_fault
use Rattle.word_page.specs.declared.wording.TheConstants.{NO_NOTE, NOTES_TOO_LONG}

-- A step, and what is noted there.
abbrev pub Noted : Type 0
Noted = ℕ × List ℕ

abbrev pub note_view : Note → Noted
note_view note = (note.step, note.text.now)

-- ---- a line

abbrev pub is_word_byte : ℕ → Bool
is_word_byte b = not (b == 32) && not (b == 9)

-- A number of one to seven digits, and something behind it.
abbrev pub note_with : Option ℕ → List ℕ → Option Noted
note_with None text = None
note_with (Some step) [] = None
note_with (Some step) (b ∷ text) = Some (step, b ∷ text)

-- The first word of a line is the step, and what stands behind the blanks after it is the note.
unfoldable pub note_of : List ℕ → Option Noted
note_of text = note_with (decimal_of (take (prefix_len is_word_byte text) text))
    (without_blanks (drop (prefix_len is_word_byte text) text))

abbrev pub with_note : List Noted → Option Noted → Option (List Noted)
with_note notes None = None
with_note notes (Some note) = Some (notes ++ note ∷ [])

-- The notes with that of one line more, if it is one. A line of blanks says nothing.
unfoldable pub with_line : List Noted → List ℕ → Option (List Noted)
with_line notes line = if length (without_blanks line) == 0 then Some notes
    else with_note notes (note_of (without_blanks line))

-- ---- a file

abbrev pub Notes : Type 0
Notes = Result (List Noted) NotesFault

-- What comes behind a line of this number.
abbrev pub behind : ℕ → Option (List Noted) → (List Noted → Notes) → Notes
behind number None rest = Err (NoNote number)
behind number (Some notes) rest = rest notes

-- The notes with those of lines from one of this number on, counted from 1; or the first line that
-- is none.
unfoldable pub notes_from : ℕ → List Noted → List (List ℕ) → Notes
notes_from number notes [] = Ok notes
notes_from number notes (line ∷ lines)
    = behind number (with_line notes line) (λ more. notes_from (number + 1) more lines)

-- The notes of a file of at most 1,048,576 bytes.
unfoldable pub notes_in : List ℕ → Notes
notes_in text = if nat_lt 1048576 (length text) then Err TooLong
    else notes_from 1 [] (lines_of text)

-- Why there are no notes. Memory may run out at any time.
abbrev pub IsFaultIn : Notes → NotesFault → Type 0
IsFaultIn notes notes_fault.OutOfMemory = ⊤
IsFaultIn notes (NoNote line) = notes ≡ Err (NoNote line)
IsFaultIn notes TooLong = notes ≡ Err TooLong

-- What is wrong with a file.
abbrev pub IsFaultOf : List ℕ → NotesFault → Type 0
IsFaultOf text fault = IsFaultIn (notes_in text) fault

-- ---- what is told of a fault

abbrev pub notes_status : NotesFault → ℕ
notes_status (NoNote line) = 1
notes_status TooLong = 1
notes_status notes_fault.OutOfMemory = 3

abbrev pub no_note_line : List ℕ → ℕ → List ℕ
no_note_line file line
    = line_of file (codes ": NOTES line " ++ (decimal line ++ NO_NOTE.now))

abbrev pub notes_line : List ℕ → NotesFault → List ℕ
notes_line file (NoNote line) = no_note_line file line
notes_line file TooLong = line_of file NOTES_TOO_LONG.now
notes_line file notes_fault.OutOfMemory = fault_line OutOfMemory
