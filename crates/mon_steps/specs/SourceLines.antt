-- The line of the source at which a run has ended, in a program that another tool built. Source:
-- mos65.
use Rattle.std.specs.Prelude.{ℕ, if◌then◌else◌, List, [], ◌++◌, Option, None, Some, codes}
use Rattle.model.specs.State.{State}
use Rattle.mon_instructions.specs.Made.{line_text}
use Rattle.source_map.specs.Lines.{PlacesView, row_at, site_words, text_of, texts_at}
use Rattle.source_map.specs.declared.rows.Row.{Row}

-- The text of a line, if it is known.
abbrev pub text_behind : Option (List ℕ) → List ℕ
text_behind None = []
text_behind (Some text) = codes ": " ++ line_text text

-- The line of a row with its file and its text: `bank.c:16: balance += sum;`.
abbrev pub source_line : PlacesView → Option Row → List ℕ
source_line places None = []
source_line places (Some row) = site_words places.sources row
    ++ (text_behind (text_of (texts_at places.sources row.file) row.line) ++ codes "\n")

-- The line at the program counter, by debug information: it never has a line for each byte. A
-- source of mos65 has, and its lines are the instructions that are shown.
unfoldable pub line_here : State → PlacesView → List ℕ
line_here state places = if places.is_whole then []
    else source_line places (row_at places.lines state.regs.pc)
