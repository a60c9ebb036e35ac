-- The program around PC. Source: mos65.
use Rattle.std.specs.Prelude.{ℕ, zero, suc, ◌+◌, ◌-◌, ◌/◌, ◌%◌, ◌==◌, Bool, is_some, if◌then◌else◌, List, [], ◌++◌, Option, None, Some, codes, decimal}
use Rattle.formatting.specs.Padding.{padded}
use Rattle.model.specs.State.{State}
use Rattle.mon_instructions.specs.Listed.{listed_len, listed_line}
use Rattle.source_map.specs.Lines.{PlacesView, SourceView, row_at, text_of, texts_at}
use Rattle.source_map.specs.declared.rows.Row.{Row}
use Rattle.mon_screen.specs.declared.wording.TheConstants.{ELSEWHERE, HERE}

-- Whether the program stands here.
abbrev pub place_mark : Bool → List ℕ
place_mark is_here = if is_here then HERE.now else ELSEWHERE.now

-- So many lines, by what each shows and by the number that comes next.
unfoldable pub several : ℕ → (ℕ → List ℕ) → (ℕ → ℕ) → ℕ → List ℕ
several zero line next at = []
several (suc n) line next at = line at ++ several n line next (next at)

-- ---- lines of a source

-- A line's number and its text, if there is such a line.
abbrev pub numbered : ℕ → Option (List ℕ) → List ℕ
numbered number None = []
numbered number (Some text) = padded 5 (decimal number) ++ text

-- A line of a source, with a mark if the program stands at it.
unfoldable pub source_line : List (List ℕ) → ℕ → ℕ → List ℕ
source_line texts here number = place_mark (number == here)
    ++ numbered number (text_of texts number) ++ codes "\n"

-- Numbers have 32 bits.
abbrev pub next_number : ℕ → ℕ
next_number number = (number + 1) % 4294967296

-- The number of the first of so many lines, in the middle of which the program stands.
abbrev pub first_number : ℕ → ℕ → ℕ
first_number here count = here - 1 - count / 2 + 1

-- ---- instructions and data

-- The line of an address, with a mark if it is PC.
unfoldable pub marked_line : State → PlacesView → ℕ → List ℕ
marked_line state places address
    = place_mark (address == state.regs.pc) ++ listed_line state places address

-- $0000 comes after $FFFF.
abbrev pub next_address : State → PlacesView → ℕ → ℕ
next_address state places address
    = (address + listed_len state places.lines address) % 65536

-- ---- the program

-- A row, if the text of its line is known.
abbrev pub told_row : List SourceView → Option Row → Option Row
told_row sources None = None
told_row sources (Some row) = if is_some (text_of (texts_at sources row.file) row.line)
    then Some row else None

-- In so many lines the source around the line of the row at PC. Where none is known, the
-- instructions from PC on.
abbrev pub around : ℕ → State → PlacesView → Option Row → List ℕ
around count state places (Some row)
    = several count (source_line (texts_at places.sources row.file) row.line) next_number
    (first_number row.line count)
around count state places None
    = several count (marked_line state places) (next_address state places) state.regs.pc

abbrev pub around_text : ℕ → State → PlacesView → List ℕ
around_text count state places
    = around count state places (told_row places.sources (row_at places.lines state.regs.pc))
