-- What a line of a report of ACME says. A row has the number of a line, which ends in the sixth column or behind
-- it, two blanks, the address where its first byte is loaded, a blank, up to eight bytes, `...` if there are more,
-- and from column 33 on the text of the line. A head says from where on a file is read. Sources: reports of ACME
-- 0.97; mos65 for the faults.
use Rattle.std.specs.Prelude.{ℕ, ◌/◌, ◌%◌, ◌==◌, ◌&&◌, ◌||◌, nat_le, not, Bool, true, false, is_some, if◌then◌else◌, List, [], codes, length, take, drop, position, Option, Some, None, Result, Ok, Err}
use Rattle.std.specs.List.{list_all}
use Rattle.std.specs.Str.{byte}
use Rattle.model.specs.OpcodeTable.{row_at}
use Rattle.model.specs.Token.{is_hex_byte}
use Rattle.model.specs.declared.instruction.Profile.TheVariants.{N}
use Rattle.model.specs.declared.instruction.Row.{Row as OpcodeRow}
use Rattle.debug_listings.specs.Lines.{address_in, begins, cut, decimal_in, hex_in}
use Rattle.debug_listings.specs.declared.report_line.ReportBytes.{ReportBytes}
use Rattle.debug_listings.specs.declared.report_line.ReportLine.{ReportLine as HeldLine}
use Rattle.debug_listings.specs.declared.report_line.ReportLine.TheVariants as held
use Rattle.debug_records.specs.Faults.{◌>>=◌, fault_at}
use Rattle.debug_records.specs.declared.fault.DebugFaultKind.TheVariants.{NoBytes, NoNumber}
use Rattle.debug_records.specs.declared.fault.LineFault.{LineFault}

-- A line says nothing; a file of a name is read from here on; or it is a line of a source, with its
-- bytes, if it has some, and whether a file ended in it without a head behind it.
pub data ReportLine : Type 0 where
  nothing : ReportLine
  head : List ℕ → ReportLine
  row : ℕ → Option ReportBytes → Bool → ReportLine

abbrev pub line_view : HeldLine → ReportLine
line_view held.Nothing = nothing
line_view (held.Head name) = head name.now
line_view (held.Row line bytes ends_file) = row line bytes ends_file

-- ---- bytes: pairs of hex digits, eight at most

-- How many bytes a column has: nine if they are more than eight.
abbrev pub shown_count : List ℕ → List ℕ → Result ℕ LineFault
shown_count column text
    = if length column == 19 && begins (drop 16 column) (codes "...") && list_all is_hex_byte (take 16 column)
    then Ok 9
    else if nat_le (length column) 16 && nat_le 2 (length column) && (length column % 2 == 0)
    && list_all is_hex_byte column then Ok (length column / 2)
    else Err (fault_at NoBytes text)

abbrev pub has_length : ℕ → Option OpcodeRow → Bool
has_length count None = false
has_length count (Some found) = found.len == count

-- Whether so many bytes are one instruction, by the first of them.
abbrev pub are_instruction : ℕ → Option ℕ → Bool
are_instruction count None = false
are_instruction count (Some first) = nat_le first 255 && has_length count (row_at N first)

-- One byte, and the bytes of one instruction, stand one behind another. Of others this is not told:
-- a line may move to another address between them.
abbrev pub is_close : ℕ → List ℕ → Bool
is_close count column = count == 1 || are_instruction count (hex_in (take 2 column))

-- ---- a row

-- The column of the bytes has 19 signs, with blanks behind the bytes.
abbrev pub bytes_column : List ℕ → List ℕ
bytes_column text = (cut (byte " ") (take 19 text)).0

unfoldable pub report_bytes : List ℕ → Result ReportBytes LineFault
report_bytes text =
    let rest = (cut (byte " ") text).1 in
    address_in (cut (byte " ") text).0 text >>= λ start.
    shown_count (bytes_column rest) rest >>= λ count.
    Ok (record { start = start; count = count; is_close = is_close count (bytes_column rest) })

-- A line without bytes has blanks in place of the address.
abbrev pub report_bytes_if : List ℕ → Result (Option ReportBytes) LineFault
report_bytes_if text = if length text == 0 || begins text (codes " ") then Ok None
    else (report_bytes text >>= λ bytes. Ok (Some bytes))

-- The sign FF stands in a line's text where a file ended and no head came before the next line: which
-- file is read from then on is not told.
abbrev pub ends_file : List ℕ → Bool
ends_file line = is_some (position (λ b. b == 255) line)

abbrev pub without_blanks_at : List ℕ → Option ℕ → List ℕ
without_blanks_at text None = []
without_blanks_at text (Some at) = drop at text

abbrev pub without_blanks : List ℕ → List ℕ
without_blanks text = without_blanks_at text (position (λ b. not (b == byte " ")) text)

abbrev pub row_with : List ℕ → Option ℕ → List ℕ → Result ReportLine LineFault
row_with text None rest = Err (fault_at NoNumber text)
row_with text (Some number) rest
    = report_bytes_if (drop 1 rest) >>= λ bytes. Ok (row number bytes (ends_file text))

unfoldable pub report_row : List ℕ → Result ReportLine LineFault
report_row text = row_with text (decimal_in (cut (byte " ") text).0) (cut (byte " ") text).1

-- ---- a line

abbrev pub head_front : List ℕ
head_front = codes "; ******** Source: "

unfoldable pub report_line : List ℕ → Result ReportLine LineFault
report_line line = if length line == 0 then Ok nothing
    else if begins line head_front then Ok (head (drop (length head_front) line))
    else report_row (without_blanks line)
