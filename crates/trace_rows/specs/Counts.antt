-- What was counted, as tables of text. Source: mos65.
use Rattle.std.specs.Prelude.{ℕ, zero, suc, ◌+◌, ◌-◌, ◌%◌, ◌==◌, nat_lt, not, Bool, false, ◌&&◌, ◌||◌, if◌then◌else◌, List, [], ◌∷◌, ◌++◌, Option, None, Some, codes, decimal, length, map, slice_index, slice_index_or, slice_set, is_none}
use Rattle.std.specs.List.{flat_map}
use Rattle.model.specs.Text.{hex_address}
use Rattle.accesses.specs.Tallies.{Counts, count_at, saturated}
use Rattle.accesses.specs.declared.tally.Count.{Count}
use Rattle.trace_rows.specs.declared.lines.SourceLine.{SourceLine}
use Rattle.trace_rows.specs.declared.sites.Label.{Label}
use Rattle.trace_rows.specs.declared.sites.Sites.{Sites}
use Rattle.trace_rows.specs.Sites.{index_at, line_at}
use Rattle.trace_rows.specs.Words.{count_text}

-- ---- a table's head, and the columns of a row

-- An empty line stands between two tables.
abbrev pub gap_behind : List ℕ → List ℕ
gap_behind [] = []
gap_behind (byte ∷ text) = 10 ∷ []

-- A text with the head of a table behind it.
unfoldable pub with_head : List ℕ → List ℕ → List ℕ
with_head what text
    = text ++ gap_behind text ++ codes "  visits      cycles  " ++ what ++ codes "\n"

unfoldable pub columns_text : Count → List ℕ
columns_text count = count_text 8 count.visits ++ count_text 12 count.cycles ++ codes "  "

abbrev pub was_reached : Count → Bool
was_reached count = nat_lt 0 count.visits || nat_lt 0 count.cycles

-- ---- labels

-- The visits of a label's address, and no cycles yet.
abbrev pub visits_of : Counts → Label → Count
visits_of counts label = record { visits = slice_index counts.visits label.address; cycles = 0 }

abbrev pub more_cycles : Count → ℕ → Count
more_cycles count cycles
    = record { visits = count.visits; cycles = saturated (count.cycles + cycles) }

abbrev pub nothing_counted : Count
nothing_counted = record { visits = 0; cycles = 0 }

-- The cycles of an address go to the label that it belongs to.
abbrev pub add_cycles : List Count → Option ℕ → ℕ → List Count
add_cycles rows None cycles = rows
add_cycles rows (Some index) cycles = slice_set rows index
    (more_cycles (slice_index_or rows index nothing_counted) cycles)

-- The counts of all labels, with the cycles of the addresses below one.
unfoldable pub counts_below : Sites → Counts → ℕ → List Count
counts_below sites counts zero = map (visits_of counts) sites.labels.items
counts_below sites counts (suc address) = add_cycles (counts_below sites counts address)
    (index_at sites.label_of.items address) (slice_index counts.cycles address)

abbrev pub is_code : Option SourceLine → Bool
is_code None = false
is_code (Some line) = line.is_instruction

-- A label is shown if it was reached, or stands at an instruction.
abbrev pub is_shown : Sites → Label → Count → Bool
is_shown sites label count = is_code (line_at sites label.address) || was_reached count

unfoldable pub label_row : Sites → Label → Count → List ℕ
label_row sites label count = if is_shown sites label count
    then columns_text count ++ label.text.items ++ codes "\n" else []

-- The rows of labels, of which the first has the count at an index.
unfoldable pub label_rows : Sites → List Count → ℕ → List Label → List ℕ
label_rows sites counts index [] = []
label_rows sites counts index (label ∷ labels)
    = label_row sites label (slice_index_or counts index nothing_counted)
    ++ label_rows sites counts (index + 1) labels

abbrev pub with_labels : Sites → Counts → List ℕ → List ℕ
with_labels sites counts text = with_head (codes "label") text
    ++ label_rows sites (counts_below sites counts 65536) 0 sites.labels.items

-- ---- lines

-- The cycles of an address and of so many further ones. $0000 comes after $FFFF.
unfoldable pub cycles_from : Counts → ℕ → ℕ → ℕ
cycles_from counts address zero = slice_index counts.cycles address
cycles_from counts address (suc more) = saturated (cycles_from counts address more
    + slice_index counts.cycles ((address + suc more) % 65536))

-- The visits of a line's first byte, and the cycles of all its bytes.
abbrev pub count_of_line : Counts → SourceLine → Count
count_of_line counts line = record {
  visits = slice_index counts.visits line.address;
  cycles = cycles_from counts line.address (line.len - 1);
}

-- A line's number, after the name of its file if that is shown.
abbrev pub number_text : List ℕ → ℕ → List ℕ
number_text file number = if length file == 0 then count_text 4 number
    else file ++ codes ":" ++ decimal number

-- A line's number and text.
unfoldable pub line_text : SourceLine → List ℕ
line_text line = number_text line.file.items line.number ++ codes ": " ++ line.text.items ++ codes "\n"

abbrev pub reached_row : SourceLine → Count → List ℕ
reached_row line count = if was_reached count then columns_text count ++ line_text line else []

-- Cycles, and those of the lines that come next, as far as they continue one line: the bytes of a
-- line of C, or of a macro's call, are several instructions.
unfoldable pub cycles_with : Counts → ℕ → List SourceLine → ℕ
cycles_with counts cycles [] = cycles
cycles_with counts cycles (line ∷ lines) = if line.continues
    then cycles_with counts (saturated (cycles + (count_of_line counts line).cycles)) lines
    else cycles

-- The visits of a line's first byte, and the cycles of the whole line, by the lines behind it.
abbrev pub whole_count : Counts → SourceLine → List SourceLine → Count
whole_count counts line lines = record {
  visits = (count_of_line counts line).visits;
  cycles = cycles_with counts (count_of_line counts line).cycles lines;
}

-- A row for each line that was reached, where the line begins.
abbrev pub line_row : Counts → SourceLine → List SourceLine → List ℕ
line_row counts line lines
    = if line.continues then [] else reached_row line (whole_count counts line lines)

unfoldable pub line_rows : Counts → List SourceLine → List ℕ
line_rows counts [] = []
line_rows counts (line ∷ lines) = line_row counts line lines ++ line_rows counts lines

abbrev pub with_lines : Sites → Counts → List ℕ → List ℕ
with_lines sites counts text
    = with_head (codes "line") text ++ line_rows counts sites.lines.items

-- ---- what was never reached, and what the source does not have

abbrev pub is_unreached : Counts → SourceLine → Bool
is_unreached counts line = line.is_instruction && not line.continues
    && (slice_index counts.visits line.address == 0)

unfoldable pub unreached_rows : Counts → List SourceLine → List (List ℕ)
unreached_rows counts [] = []
unreached_rows counts (line ∷ lines) = if is_unreached counts line
    then line_text line ∷ unreached_rows counts lines else unreached_rows counts lines

-- Rows behind a text. If there are any, the text gets a head first.
abbrev pub with_rows : List ℕ → List ℕ → List (List ℕ) → List ℕ
with_rows text headed [] = text
with_rows text headed (row ∷ rows) = headed ++ flat_map (λ r. r) (row ∷ rows)

abbrev pub with_unreached : Sites → Counts → List ℕ → List ℕ
with_unreached sites counts text = with_rows text (text ++ codes "\nnever reached\n")
    (unreached_rows counts sites.lines.items)

abbrev pub is_elsewhere : Sites → Counts → ℕ → Bool
is_elsewhere sites counts address
    = nat_lt 0 (slice_index counts.visits address) && is_none (line_at sites address)

unfoldable pub address_row : Counts → ℕ → List ℕ
address_row counts address
    = columns_text (count_at counts address) ++ hex_address address ++ codes "\n"

-- The rows of so many addresses from one on.
unfoldable pub elsewhere_rows : Sites → Counts → ℕ → ℕ → List (List ℕ)
elsewhere_rows sites counts address zero = []
elsewhere_rows sites counts address (suc more) = if is_elsewhere sites counts address
    then address_row counts address ∷ elsewhere_rows sites counts (address + 1) more
    else elsewhere_rows sites counts (address + 1) more

abbrev pub with_elsewhere : Sites → Counts → List ℕ → List ℕ
with_elsewhere sites counts text = with_rows text (with_head (codes "address") text)
    (elsewhere_rows sites counts 0 65536)

-- ---- the sums, and all of it

abbrev pub entries_row : Count → List ℕ
entries_row entries = if nat_lt 0 entries.visits
    then columns_text entries ++ codes "interrupts\n" else []

unfoldable pub with_sums : Count → Count → List ℕ → List ℕ
with_sums entries all text = with_head (codes "in all") text ++ entries_row entries
    ++ columns_text all ++ codes "steps\n"

-- A table of nothing is left out.
abbrev pub labels_part : Sites → Counts → List Label → List ℕ → List ℕ
labels_part sites counts [] text = text
labels_part sites counts (label ∷ labels) text = with_labels sites counts text

abbrev pub lines_part : Sites → Counts → List SourceLine → List ℕ → List ℕ
lines_part sites counts [] text = text
lines_part sites counts (line ∷ lines) text = with_lines sites counts text

unfoldable pub with_counts : Sites → Counts → Count → Count → List ℕ → List ℕ
with_counts sites counts entries all text = with_sums entries all
    (with_unreached sites counts (with_elsewhere sites counts
    (lines_part sites counts sites.lines.items (labels_part sites counts sites.labels.items text))))
