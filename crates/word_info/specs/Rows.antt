-- The rows in which `info` tells an image's facts. Source: mos65.
use Rattle.std.specs.Prelude.{ℕ, ◌+◌, ◌-◌, ◌%◌, ◌^◌, ◌==◌, Bool, true, false, if◌then◌else◌, List, [], ◌∷◌, ◌++◌, Option, Some, None, codes, decimal, encode_utf8_all, length}
use Rattle.std.specs.Fmt.{digits, format_spec, padded_integral}
use Rattle.std.specs.List.{flat_map, zip}
use Rattle.arguments.specs.Shown.{shown_name}
use Rattle.model.specs.State.{no_port}
use Rattle.model.specs.declared.instruction.Profile.{Profile}
use Rattle.dump_faults.specs.Lines.{block_of}
use Rattle.dump_faults.specs.declared.faults.Bus.{Bus}
use Rattle.dump_faults.specs.declared.faults.Bus.TheVariants.{Address, Data}
use Rattle.dump_faults.specs.declared.faults.Stuck.{Stuck}
use Rattle.dump_faults.specs.declared.regions.Region.{Region}
use Rattle.tape_words.specs.Answers.{counted}
use Rattle.tape_words.specs.Instructions.{row_at, text_by}
use Rattle.word_info.specs.Facts.{gap_size}
use Rattle.image_files.specs.Told.{what_of}
use Rattle.image_files.specs.declared.refusal.NoImage.{NoImage}
use Rattle.image_files.specs.declared.refusal.NoImage.TheVariants.{Record}
use Rattle.word_mend.specs.RecordReports.{record_line}
use Rattle.word_info.specs.declared.checksum.Sums.{Sums}
use Rattle.word_info.specs.declared.fact_list.Facts.{Facts}
use Rattle.word_info.specs.declared.gaps.Gap.{Gap}
use Rattle.word_info.specs.declared.ranges.Range.{Range}
use Rattle.tape_words.specs.declared.wording.TheConstants.{BYTE, BYTES, RECORD, RECORDS}
use Rattle.word_info.specs.declared.wording.TheConstants.{BEHIND_ROW, NOT_READ, TAPE_ROW, IMAGE_ROW, IN, AND, RANGE, RANGES, RANGE_ROW, CRC_32, SUM_16, SUM_8, REGION_ROW, EACH, LINE_ROW, IS_0, IS_1, NO_EFFECT, TWICE, CLASH, NO_BASE, FREE, OVERLAP_ROW, AGAIN, GAP_ROW, NOTHING, NMI_ROW, RESET_ROW, IRQ_ROW, PAGE_0_ROW, PAGE_1_ROW, PORT_ROW}

-- ---- words of the rows

-- So many hex digits, more where a number has more. They are capital letters, or small ones.
abbrev pub hex_digits : Bool → ℕ → ℕ → List ℕ
hex_digits capital width number = padded_integral (format_spec 32 0 4 width (2 ^ 64 - 1)) false []
    (digits 16 capital number)

-- An address as four hex digits.
abbrev pub address_text : ℕ → List ℕ
address_text address = hex_digits true 4 address

-- Two addresses behind words, as `range   0200-02FF  `.
unfoldable pub stretch_text : List ℕ → ℕ → ℕ → List ℕ
stretch_text words first last
    = words ++ address_text first ++ codes "-" ++ address_text last ++ codes "  "

-- How many bytes there are.
abbrev pub byte_count : ℕ → List ℕ
byte_count count = counted count BYTE.now BYTES.now

-- ---- the tape

-- How many data records a tape has. Of another image nothing is said.
abbrev pub records_text : Option ℕ → List ℕ
records_text None = []
records_text (Some records) = AND.now ++ counted records RECORD.now RECORDS.now

abbrev pub image_name : Option ℕ → List ℕ
image_name None = IMAGE_ROW.now
image_name (Some records) = TAPE_ROW.now

-- The first row: how many bytes and ranges an image has, and how many records if it is a tape.
abbrev pub tape_row : Facts → Option ℕ → List ℕ
tape_row facts records = image_name records ++ counted facts.bytes BYTE.now BYTES.now
    ++ IN.now ++ counted (length facts.ranges.items) RANGE.now RANGES.now
    ++ records_text records ++ 10 ∷ []

-- ---- ranges and gaps

-- Check sums behind words: CRC-32, the sum modulo 65,536 and the sum modulo 256.
unfoldable pub sum_text : Sums → List ℕ
sum_text sums = CRC_32.now ++ hex_digits false 8 sums.crc_32 ++ SUM_16.now
    ++ hex_digits true 4 sums.sum_16 ++ SUM_8.now ++ hex_digits true 2 (sums.sum_16 % 256)
    ++ codes "\n"

-- The row of a range and its check sums:
-- `range   0200-02FF  256 bytes  CRC-32 0123abcd  sum16 7F80  sum8 80`.
unfoldable pub range_row : Range × Sums → List ℕ
range_row summed = stretch_text RANGE_ROW.now summed.0.first summed.0.last
    ++ byte_count (summed.0.last - summed.0.first + 1) ++ sum_text summed.1

-- A row for each range with its check sum.
abbrev pub range_rows : Facts → List ℕ
range_rows facts = flat_map range_row (zip facts.ranges.items facts.checksums.items)

-- The row of a region of one value: `same    E123-FFF9  7895 bytes $FF`.
unfoldable pub region_row : Region → List ℕ
region_row region = stretch_text REGION_ROW.now region.first region.last
    ++ byte_count (region.last - region.first + 1) ++ EACH.now ++ hex_digits true 2 region.value
    ++ codes "\n"

-- A row for each of them.
abbrev pub region_rows : List Region → List ℕ
region_rows regions = flat_map region_row regions

-- The row of a data line that has one value in every byte: its name, and the value.
abbrev pub value_text : Bool → List ℕ
value_text true = IS_1.now
value_text false = IS_0.now

unfoldable pub data_line_row : ℕ → Bool → List ℕ
data_line_row line value = LINE_ROW.now ++ codes "D" ++ decimal line ++ value_text value

-- The row of an address line without effect:
-- `line    A12 makes no difference: each block of 4096 bytes stands twice`.
unfoldable pub address_line_row : ℕ → List ℕ
address_line_row line = LINE_ROW.now ++ codes "A" ++ decimal line ++ NO_EFFECT.now
    ++ byte_count (block_of line) ++ TWICE.now

-- The row of a line.
abbrev pub line_text : Bus → ℕ → Bool → List ℕ
line_text Data line value = data_line_row line value
line_text Address line value = address_line_row line

abbrev pub line_row : Stuck → List ℕ
line_row stuck = line_text stuck.bus stuck.line stuck.value

-- A row for each of some lines.
abbrev pub line_rows : List Stuck → List ℕ
line_rows lines = flat_map line_row lines

-- The row of addresses at which more than one record puts a byte:
-- `overlap 0201-0201  1 byte written more than once`.
unfoldable pub overlap_row : Range → List ℕ
overlap_row range = stretch_text OVERLAP_ROW.now range.first range.last
    ++ byte_count (range.last - range.first + 1) ++ AGAIN.now

-- A row for each range of such addresses.
abbrev pub overlap_rows : List Range → List ℕ
overlap_rows overlaps = flat_map overlap_row overlaps

-- The row of a gap, from the address after the range before it to the one before the range after it.
abbrev pub known_gap_row : Gap → List ℕ
known_gap_row gap = stretch_text GAP_ROW.now (gap.after + 1) (gap.before - 1)
    ++ byte_count (gap_size gap) ++ codes "\n"

-- The row of the largest gap, if there is one.
abbrev pub gap_row : Option Gap → List ℕ
gap_row None = []
gap_row (Some gap) = known_gap_row gap

-- The row of records behind an end record:
-- `behind  3 records behind the end record, not read`.
unfoldable pub some_behind_row : ℕ → List ℕ
some_behind_row count = BEHIND_ROW.now ++ counted count RECORD.now RECORDS.now ++ NOT_READ.now

abbrev pub behind_row : ℕ → List ℕ
behind_row count = if count == 0 then [] else some_behind_row count

-- ---- vectors

-- Where a vector points to, and the instruction there as a profile has it.
abbrev pub target_text : Profile → List (Option ℕ) → Option ℕ → List ℕ
target_text profile image None = NOTHING.now ++ codes "\n"
target_text profile image (Some target) = address_text target ++ codes "  "
    ++ encode_utf8_all (text_by (row_at profile image target)) ++ codes "\n"

-- The rows of the three vectors.
unfoldable pub vector_rows : Profile → List (Option ℕ) → Facts → List ℕ
vector_rows profile image facts
    = (NMI_ROW.now ++ target_text profile image facts.nmi)
    ++ (RESET_ROW.now ++ target_text profile image facts.reset)
    ++ (IRQ_ROW.now ++ target_text profile image facts.irq)

-- ---- parts of memory

-- How many bytes stand in a part of memory, or `nothing`.
abbrev pub amount_text : ℕ → List ℕ
amount_text bytes = (if bytes == 0 then NOTHING.now else byte_count bytes) ++ codes "\n"

-- The row of a part of memory, from one address to another.
abbrev pub part_row : List ℕ → ℕ → ℕ → ℕ → List ℕ
part_row words first last bytes = stretch_text words first last ++ amount_text bytes

-- An address between words.
unfoldable pub between_text : List ℕ → ℕ → List ℕ → List ℕ
between_text before address behind = before ++ address_text address ++ behind

-- Which base is free.
abbrev pub base_text : Option ℕ → List ℕ
base_text None = NO_BASE.now
base_text (Some base) = between_text CLASH.now base FREE.now

-- How many bytes stand at the port, where the machine would have none of them, and which base is
-- free; or `nothing`.
unfoldable pub clash_text : ℕ → Option ℕ → List ℕ
clash_text bytes free = if bytes == 0 then NOTHING.now ++ codes "\n"
    else byte_count bytes ++ base_text free

-- The row of the port's four addresses, where there is a port.
abbrev pub port_row : ℕ → Facts → List ℕ
port_row port facts = if port == no_port then []
    else stretch_text PORT_ROW.now port (port + 3) ++ clash_text facts.at_port facts.free_base

-- The rows of page 0, of page 1 and of the port.
unfoldable pub part_rows : ℕ → Facts → List ℕ
part_rows port facts = part_row PAGE_0_ROW.now 0 255 facts.in_page_0
    ++ part_row PAGE_1_ROW.now 256 511 facts.in_page_1 ++ port_row port facts

-- ---- all rows

-- All rows of an image's facts, for a profile, a port, so many records of a tape and where these
-- overlap.
unfoldable pub rows_of : Profile → List (Option ℕ) → ℕ → Facts → Option ℕ → List Range → List ℕ
rows_of profile image port facts records overlaps = tape_row facts records ++ range_rows facts
    ++ region_rows facts.regions.items ++ line_rows facts.lines.items
    ++ overlap_rows overlaps ++ gap_row facts.gap ++ vector_rows profile image facts
    ++ part_rows port facts

-- ---- what is no image

-- What is wrong with a file: in which line and column of a text of records, or a sentence.
unfoldable pub no_image_text : List ℕ → NoImage → List ℕ
no_image_text file (Record f) = record_line file f
no_image_text file no_image = shown_name file ++ codes ": " ++ what_of no_image ++ codes "\n"
