-- The bytes that are written for an image in each form.
-- Source: Intel, Hexadecimal Object File Format Specification, revision A, 1988; Motorola, M68000
-- Family Programmer's Reference Manual, appendix C, S-record output format; mos65 for capitals, for
-- the order of the records, for CR LF behind each, and for what the header says.
use Rattle.std.specs.Prelude.{ℕ, ◌+◌, ◌-◌, ◌%◌, ◌/◌, List, [], ◌∷◌, ◌++◌, codes, drop, length, map, sum, take, unwrap_or, Option}
use Rattle.std.specs.List.{flat_map}
use Rattle.hex.specs.Hex.{encode_upper}
use Rattle.model.specs.TapeText.{Stretch, word}
use Rattle.image_reader.specs.declared.form.TextForm.{TextForm}
use Rattle.image_reader.specs.declared.form.TextForm.TheVariants.{Hex, SRecord}
use Rattle.image_writer.specs.Rows.{rows}

-- The checksum with which bytes have a sum, modulo 256.
abbrev pub checksum : ℕ → List ℕ → ℕ
checksum total bytes = (total + 256 - sum bytes % 256) % 256

-- A record: its mark, its bytes and their checksum in capital hex digits, CR LF.
abbrev pub record_text : List ℕ → ℕ → List ℕ → List ℕ
record_text mark total bytes
    = mark ++ (encode_upper (bytes ++ checksum total bytes ∷ []) ++ 13 ∷ 10 ∷ [])

-- Of Intel HEX: length, offset, type 00, data; the end record.
abbrev pub hex_row : Stretch → List ℕ
hex_row row = record_text (codes ":") 0 (length row.1 ∷ word row.0 ++ 0 ∷ row.1)

abbrev pub hex_end : List ℕ
hex_end = record_text (codes ":") 0 (0 ∷ 0 ∷ 0 ∷ 1 ∷ [])

-- Of S-records: an S0 record that says `mos65`, S1 records, an S9 record with the address 0.
abbrev pub s_header : List ℕ
s_header = record_text (codes "S0") 255 (8 ∷ 0 ∷ 0 ∷ codes "mos65")

abbrev pub s_row : Stretch → List ℕ
s_row row = record_text (codes "S1") 255 ((length row.1 + 3) ∷ word row.0 ++ row.1)

abbrev pub s_end : List ℕ
s_end = record_text (codes "S9") 255 (3 ∷ 0 ∷ 0 ∷ [])

abbrev pub front_text : TextForm → List ℕ
front_text Hex = []
front_text SRecord = s_header

abbrev pub row_text : TextForm → Stretch → List ℕ
row_text Hex row = hex_row row
row_text SRecord row = s_row row

abbrev pub end_text : TextForm → List ℕ
end_text Hex = hex_end
end_text SRecord = s_end

-- The text of an image.
unfoldable pub image_text : TextForm → List (Option ℕ) → List ℕ
image_text form cells
    = front_text form ++ flat_map (row_text form) (rows 0 [] cells) ++ end_text form

-- ---- without records

abbrev pub byte_of : ℕ → Option ℕ → ℕ
byte_of fill cell = unwrap_or cell fill

-- The bytes from one address to another, both included, with a byte in place of none.
unfoldable pub raw_bytes : ℕ → ℕ → ℕ → List (Option ℕ) → List ℕ
raw_bytes low high fill cells = map (byte_of fill) (take (high + 1 - low) (drop low cells))

-- The same behind the first address, the low byte of that first.
abbrev pub prg_bytes : ℕ → ℕ → ℕ → List (Option ℕ) → List ℕ
prg_bytes low high fill cells = low % 256 ∷ low / 256 ∷ raw_bytes low high fill cells
