-- What stands behind the lines of a source. Source: Language Server Protocol 3.17, "Inlay Hint
-- Request"; what is shown of which line, mos65.
use Rattle.std.specs.Prelude.{ℕ, ◌+◌, ◌&&◌, nat_le, nat_lt, Bool, true, false, if◌then◌else◌, is_some, List, [], ◌∷◌, ◌++◌, length, codes, decimal, Option, Some, None, slice_get}
use Rattle.std.specs.Str.Lossy.{utf8_lossy}
use Rattle.json_messages.specs.Values.{list_of, object_of, word}
use Rattle.lsp_messages.specs.Values.{position_data}
use Rattle.model.specs.AllFaults.{Found, found_lines, smallest}
use Rattle.model.specs.Layout.{Content, PlacedLine, no_bytes, byte_list, word_list, word_list_high_first, code}
use Rattle.model.specs.Listing.{address_text}
use Rattle.model.specs.OpcodeTable.{row_at}
use Rattle.model.specs.Source.{first_context, read_lines}
use Rattle.model.specs.declared.instruction.Mnemonic.{Mnemonic}
use Rattle.model.specs.declared.instruction.Mnemonic.TheVariants.{Bra}
use Rattle.model.specs.declared.instruction.Mode.{Mode}
use Rattle.model.specs.declared.instruction.Mode.TheVariants.{Rel}
use Rattle.model.specs.declared.instruction.Profile.{Profile}
use Rattle.model.specs.declared.instruction.Row.{Row}
use Rattle.serde_json.specs.Data.{Data, boolean}
use Rattle.source_notes.specs.Lines.{line_or_none}

-- ---- words

-- How many cycles an instruction takes at least behind those of the table: that of a branch which is
-- always taken.
abbrev pub least_more : Mnemonic → ℕ
least_more Bra = 1
least_more m = 0

-- How many it takes at most behind those of the table: those of a branch that is taken to another
-- page, or that of a page that is crossed. Source: MCS6500 manual, appendix B.
abbrev pub most_more : Mode → Bool → ℕ
most_more Rel penalty = 2
most_more mode penalty = if penalty then 1 else 0

-- The most cycles behind the least, if they are more.
abbrev pub up_to : ℕ → ℕ → List ℕ
up_to least most = if nat_lt least most then codes "-" ++ decimal most else []

abbrev pub cycles_words : Option Row → List ℕ
cycles_words None = []
cycles_words (Some row) = codes ", " ++ decimal (row.cycles + least_more row.mnemonic)
    ++ up_to (row.cycles + least_more row.mnemonic) (row.cycles + most_more row.mode row.penalty)
    ++ codes " cycles"

-- An address, and the cycles of the instruction there, if there is one.
abbrev pub place_words : ℕ → Option Row → List ℕ
place_words address row = codes "$" ++ address_text address ++ cycles_words row

-- ---- lines

abbrev pub has_bytes : Content → Bool
has_bytes no_bytes = false
has_bytes (byte_list items) = true
has_bytes (word_list es) = true
has_bytes (word_list_high_first es) = true
has_bytes (code opcode mode term) = true

abbrev pub row_of : Profile → Content → Option Row
row_of profile (code opcode mode term) = row_at profile opcode
row_of profile no_bytes = None
row_of profile (byte_list items) = None
row_of profile (word_list es) = None
row_of profile (word_list_high_first es) = None

-- What is shown of a line with bytes.
abbrev pub hint_words : Profile → PlacedLine → Option (List ℕ)
hint_words profile p
    = if has_bytes p.content then Some (place_words p.address (row_of profile p.content)) else None

abbrev pub hint_data : List ℕ → ℕ → ℕ → Data
hint_data label line column = object_of ((codes "label", word label)
    ∷ (codes "paddingLeft", boolean true) ∷ (codes "position", position_data line column) ∷ [])

-- How many bytes a line has, by its number from 0. One with bytes is ASCII, so that they are its
-- units of UTF-16.
abbrev pub width_of : List (List ℕ) → ℕ → ℕ
width_of lines number = length (line_or_none (slice_get lines number))

abbrev pub hints_by : List (List ℕ) → ℕ → Option (List ℕ) → List Data
hints_by lines number None = []
hints_by lines number (Some words)
    = hint_data (utf8_lossy words) number (width_of lines number) ∷ []

abbrev pub line_hints : Profile → List (List ℕ) → ℕ → PlacedLine → List Data
line_hints profile lines number p = hints_by lines number (hint_words profile p)

-- The line is between the first and the last of those that are asked for.
abbrev pub is_between : ℕ × ℕ → ℕ → Bool
is_between between number = nat_le between.0 number && nat_le number between.1

abbrev pub hints_at : Profile → List (List ℕ) → ℕ × ℕ → ℕ → Found → List Data
hints_at profile lines between number f = if is_between between number
    then line_hints profile lines number f.place else []

abbrev pub is_refused : Found → Bool
is_refused f = is_some f.kind

-- Up to the first line that has a fault of the layout, behind which nobody knows where lines stand.
unfoldable pub hints_from : Profile → List (List ℕ) → ℕ × ℕ → ℕ → List Found → List Data
hints_from profile lines between number [] = []
hints_from profile lines between number (f ∷ fs) = if is_refused f then []
    else hints_at profile lines between number f
    ++ hints_from profile lines between (number + 1) fs

-- What is found of the lines of a source.
unfoldable pub found_in : Profile → List ℕ → List Found
found_in profile source
    = found_lines smallest (first_context profile) (read_lines profile source)

abbrev pub unless_long : Bool → List Data → Data
unless_long true hints = list_of []
unless_long false hints = list_of hints

-- What stands behind the lines of a source, between two of them; nothing where it is too long.
abbrev pub hints_of : Profile → List ℕ → List (List ℕ) → ℕ × ℕ → Data
hints_of profile source lines between = unless_long (nat_lt 1048576 (length source))
    (hints_from profile lines between 0 (found_in profile source))
