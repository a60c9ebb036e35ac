-- A source with comments beside its lines: where each stands with its bytes, and what a person says of
-- its address. Source: mos65.
use Rattle.std.specs.Prelude.{ℕ, zero, suc, ◌+◌, ◌-◌, ◌==◌, ◌&&◌, nat_le, nat_lt, not, max, min, Bool, true, false, if◌then◌else◌, List, [], ◌∷◌, ◌++◌, codes, get_or, length, unwrap_or, Option}
use Rattle.assembler.specs.Lines.{LineView}
use Rattle.formatting.specs.Padding.{padded}
use Rattle.model.specs.Image.{cell_at}
use Rattle.model.specs.Listing.{address_text}
use Rattle.model.specs.Text.{hex_byte}
use Rattle.marks_files.specs.Marks.{text_of}
use Rattle.marks_files.specs.declared.marks.Remark.{Remark}

-- What stands beside the lines: where they are, if that is asked for, and the comments of addresses,
-- with the texts of these one after another.
pub record Beside : Type 0 where
  pub addresses : Bool
  pub remarks : List Remark
  pub texts : List ℕ

-- ---- which addresses a line stands for

-- A line that is a label alone ends with `:`.
abbrev pub is_label : List ℕ → Bool
is_label line = get_or line (length line - 1) 0 == 58

-- How many they are: one for each of its bytes, and one for a label.
abbrev pub reach_of : LineView → ℕ
reach_of l = if l.count == 0 then (if is_label l.text then 1 else 0) else l.count

-- An address lies at one or above it, and below another.
abbrev pub lies_in : ℕ → ℕ → ℕ → Bool
lies_in low high address = nat_le low address && nat_lt address high

-- ---- comments before a line

-- The line of a comment that stands before the line of its address.
abbrev pub block_of : List ℕ → ℕ → ℕ → Remark → List ℕ
block_of texts low high r = if r.is_block && lies_in low high r.address
    then codes "; " ++ (text_of texts r ++ codes "\n") else []

-- Those of some addresses.
abbrev pub blocks : List ℕ → ℕ → ℕ → List Remark → List ℕ
blocks texts low high [] = []
blocks texts low high (r ∷ rs) = block_of texts low high r ++ blocks texts low high rs

-- ---- comments behind a line

-- The first stands behind its line, and each further one on a line of its own.
abbrev pub note_front : Bool → List ℕ
note_front true = codes " ; "
note_front false = codes "\n; "

abbrev pub is_note : ℕ → ℕ → Remark → Bool
is_note low high r = not r.is_block && lies_in low high r.address

unfoldable pub notes : List ℕ → ℕ → ℕ → Bool → List Remark → List ℕ
notes texts low high first [] = []
notes texts low high first (r ∷ rs) = if is_note low high r
    then note_front first ++ (text_of texts r ++ notes texts low high false rs)
    else notes texts low high first rs

-- ---- where a line is

-- A byte of an image, behind a blank.
abbrev pub byte_column : List (Option ℕ) → ℕ → List ℕ
byte_column image address = 32 ∷ hex_byte (unwrap_or (cell_at image address) 0)

-- So many bytes from an address on.
unfoldable pub byte_columns : List (Option ℕ) → ℕ → ℕ → List ℕ
byte_columns image zero address = []
byte_columns image (suc n) address
    = byte_column image address ++ byte_columns image n (address + 1)

-- What stands for the bytes after the first eight.
abbrev pub more_bytes : ℕ → List ℕ
more_bytes count = if nat_lt 8 count then codes " .." else []

-- A line that has bytes, with its address and the first of them behind column 40.
abbrev pub placed : List (Option ℕ) → LineView → List ℕ
placed image l = padded 40 l.text ++ (codes " ; " ++ (address_text l.address ++ (codes " "
    ++ (byte_columns image (min l.count 8) l.address ++ more_bytes l.count))))

abbrev pub front_of : Bool → List (Option ℕ) → LineView → List ℕ
front_of addresses image l = if addresses && nat_lt 0 l.count then placed image l else l.text

-- ---- rows

-- A line with what stands beside it, and its end.
abbrev pub row_of : Beside → List (Option ℕ) → LineView → List ℕ
row_of b image l = front_of b.addresses image l
    ++ (notes b.texts l.address (l.address + l.count) true b.remarks ++ codes "\n")

-- The first address whose comments were not written, after a line.
abbrev pub behind : ℕ → LineView → ℕ
behind from l = if reach_of l == 0 then from else l.address + reach_of l

-- The comments before a line, and the line.
abbrev pub rows_of : Beside → List (Option ℕ) → ℕ → LineView → List ℕ
rows_of b image from l
    = blocks b.texts (max from l.address) (l.address + reach_of l) b.remarks ++ row_of b image l

-- All lines, where the comments of so many addresses were written.
unfoldable pub rows_from : Beside → List (Option ℕ) → ℕ → List LineView → List ℕ
rows_from b image from [] = []
rows_from b image from (l ∷ ls)
    = rows_of b image from l ++ rows_from b image (behind from l) ls
