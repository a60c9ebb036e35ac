-- The rows of a disassembly: those of the list of `mon`, instructions and data. Source: Debug Adapter
-- Protocol 1.65, "Disassemble Request"; where rows before an address begin, mos65.
use Rattle.std.specs.Prelude.{ℕ, ℤ, zero, suc, pos, negsuc, ◌+◌, ◌-◌, ◌*◌, ◌==◌, ◌&&◌, min, nat_lt, Bool, if◌then◌else◌, List, [], ◌∷◌, ◌++◌, codes, decimal, take, slice_get, string_bytes, Option, Some, None}
use Rattle.std.specs.List.{flat_map}
use Rattle.std.specs.Str.Lossy.{utf8_lossy}
use Rattle.dap_messages.specs.SeenAnswers.{SeenAnswer, SeenItem, instruction_at_line, instruction_row, instructions_body, no_instruction}
use Rattle.dap_messages.specs.Counting.{shown_line}
use Rattle.dap_messages.specs.declared.counting.Counting.{Counting}
use Rattle.dap_views.specs.declared.source.FilePath.{FilePath}
use Rattle.mon_instructions.specs.Instructions.{bytes_at, instruction_at, instruction_text}
use Rattle.mon_instructions.specs.Listed.{listed_len}
use Rattle.mon_session.specs.declared.mon_state.MonState.{MonState}
use Rattle.model.specs.Text.{hex_byte}
use Rattle.source_map.specs.Lines.{data_left, row_at as line_row}
use Rattle.source_map.specs.declared.rows.Row.{Row}

-- ---- where rows begin

-- A row that would run past an end has one byte.
abbrev pub up_to : ℕ → ℕ → ℕ → ℕ
up_to end address len
    = if nat_lt address end && nat_lt end (address + len) then 1 else len

abbrev pub row_len : MonState → ℕ → ℕ → ℕ
row_len mon end address
    = up_to end address (listed_len mon.session.current mon.places.lines address)

-- The address behind a row of so many bytes. Behind the memory a row has one, up to the largest
-- number of 32 bits.
abbrev pub behind_row : ℕ → ℕ → ℕ
behind_row address len = if nat_lt address 65536 then address + len
    else if address == 4294967295 then address else address + 1

-- Where the row behind one begins.
abbrev pub next_row : MonState → ℕ → ℕ → ℕ
next_row mon end address = behind_row address (row_len mon end address)

-- Where the row begins that is so many rows on.
unfoldable pub rows_on : MonState → ℕ → ℕ → ℕ → ℕ
rows_on mon end zero address = address
rows_on mon end (suc n) address = rows_on mon end n (next_row mon end address)

-- How many rows there are from an address to the end, at most so many.
unfoldable pub rows_to : MonState → ℕ → ℕ → ℕ → ℕ
rows_to mon end zero address = 0
rows_to mon end (suc n) address = if nat_lt address end
    then suc (rows_to mon end n (next_row mon end address)) else 0

-- ---- what a row shows

abbrev pub further : List ℕ → ℕ → List ℕ
further between byte = between ++ hex_byte byte

-- Bytes in hex, with words in front of the first and between them.
abbrev pub joined : List ℕ → List ℕ → List ℕ → List ℕ
joined front between [] = []
joined front between (byte ∷ bytes)
    = front ++ hex_byte byte ++ flat_map (further between) bytes

abbrev pub row_bytes : MonState → ℕ → ℕ → List ℕ
row_bytes mon address len = take (min len 3) (bytes_at mon.session.current address)

-- Whether a row is an instruction. The others are data.
abbrev pub is_instruction : MonState → ℕ → ℕ → Bool
is_instruction mon address len = (instruction_at mon.session.current address).len == len
    && data_left mon.places.lines address == 0

abbrev pub row_text : MonState → ℕ → ℕ → List ℕ
row_text mon address len = if is_instruction mon address len
    then instruction_text mon.session.current mon.places.names address
    else joined (codes ".BYTE $") (codes ",$") (row_bytes mon address len)

-- A row of bytes and a text at a line of a file, if the file is known.
abbrev pub row_in : Counting → ℕ → List ℕ → List ℕ → Option FilePath → ℕ → SeenItem
row_in counting address bytes text (Some file) line
    = instruction_at_line address bytes text (shown_line counting line) (string_bytes file.path)
row_in counting address bytes text None line = instruction_row address bytes text

-- It may stand at a line of one of the files.
abbrev pub row_on : List FilePath → Counting → ℕ → List ℕ → List ℕ → Option Row → SeenItem
row_on files counting address bytes text (Some row)
    = row_in counting address bytes text (slice_get files row.file) row.line
row_on files counting address bytes text None = instruction_row address bytes text

abbrev pub row_shown : MonState → List FilePath → Counting → ℕ → ℕ → SeenItem
row_shown mon files counting address len = row_on files counting address
    (utf8_lossy (joined [] (codes " ") (row_bytes mon address len)))
    (utf8_lossy (row_text mon address len)) (line_row mon.places.lines address)

-- Where no memory is, a row says so.
abbrev pub row_of : MonState → List FilePath → Counting → ℕ → ℕ → SeenItem
row_of mon files counting address len = if nat_lt address 65536
    then row_shown mon files counting address len else no_instruction (decimal address)

abbrev pub row_at : MonState → List FilePath → Counting → ℕ → ℕ → SeenItem
row_at mon files counting end address
    = row_of mon files counting address (row_len mon end address)

-- So many rows from an address on.
unfoldable pub rows : MonState → List FilePath → Counting → ℕ → ℕ → ℕ → List SeenItem
rows mon files counting end zero address = []
rows mon files counting end (suc n) address = row_at mon files counting end address
    ∷ rows mon files counting end n (next_row mon end address)

-- Rows in front of the memory, of which the first is so many bytes before it.
unfoldable pub lacking_rows : ℕ → ℕ → List SeenItem
lacking_rows zero before = []
lacking_rows (suc n) before
    = no_instruction (codes "-" ++ decimal before) ∷ lacking_rows n (before - 1)

-- ---- which rows are asked for

-- How many rows on the first one is, and how many rows back, at most 65,536.
abbrev pub ahead : ℤ → ℕ
ahead (pos n) = min n 65536
ahead (negsuc n) = 0

abbrev pub behind : ℤ → ℕ
behind (pos n) = 0
behind (negsuc n) = min (suc n) 65536

-- Rows before an end are looked for from three bytes for each before it on.
abbrev pub begin : ℕ → ℕ → ℕ
begin end back = end - back * 3

abbrev pub found : MonState → ℕ → ℕ → ℕ
found mon end back = rows_to mon end (end - begin end back) (begin end back)

-- Where the first row begins: of the rows found the last are shown, and those ahead are passed by.
abbrev pub first : MonState → ℕ → ℕ → ℕ → ℕ
first mon end back on
    = rows_on mon end ((found mon end back - back) + on) (begin end back)

-- Rows in front of the memory, as many as were not found, and the rows behind them.
abbrev pub rows_around : MonState → List FilePath → Counting → ℕ → ℕ → ℕ → ℕ → List SeenItem
rows_around mon files counting end back on count
    = lacking_rows (min (back - found mon end back) count) (back - found mon end back)
    ++ rows mon files counting end (count - (back - found mon end back))
    (first mon end back on)

-- Where no address is named, no memory is.
abbrev pub rows_at : MonState → List FilePath → Counting → ℤ → ℕ → Option ℕ → List SeenItem
rows_at mon files counting offset count None = rows mon files counting 0 count 65536
rows_at mon files counting offset count (Some end)
    = rows_around mon files counting end (behind offset) (ahead offset) count

abbrev pub disassembled : MonState → List FilePath → Counting → Option ℕ → ℤ → ℕ → SeenAnswer
disassembled mon files counting address offset count
    = instructions_body (rows_at mon files counting offset count address)
