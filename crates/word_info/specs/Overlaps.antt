-- At which addresses more than one record puts a byte: of a tape, of Intel HEX or of S-records.
-- Source: mos65. The later record counts, by the definitions of what these denote.
use Rattle.std.specs.Prelude.{◌≡◌, ℕ, ◌+◌, ◌*◌, ◌<◌, ◌==◌, ◌&&◌, nat_le, nat_lt, Bool, true, false, if◌then◌else◌, List, [], ◌∷◌, drop, length, map, slice_index, slice_set, Option, Some, None, Ok}
use Rattle.std.specs.List.{range_with_len}
use Rattle.image_reader.specs.declared.form.TextForm.{TextForm}
use Rattle.image_reader.specs.Texts.{text_overlaps}
use Rattle.model.specs.Digits.{digit_value}
use Rattle.model.specs.Image.{cell_at}
use Rattle.model.specs.Tape.{Part, gap, record_of, claim_of}
use Rattle.word_info.specs.Facts.{ranges_of}
use Rattle.word_info.specs.declared.ranges.Range.{Range}

-- Whether so many bytes from an address on have one at another address.
abbrev pub covers : ℕ → ℕ → ℕ → Bool
covers first count address = nat_le first address && nat_lt address (first + count)

-- 1 where they have.
abbrev pub covered : ℕ → ℕ → ℕ → ℕ
covered first count address = if covers first count address then 1 else 0

-- How many records put a byte at an address.
abbrev pub writes_at : List Part → ℕ → ℕ
writes_at [] address = 0
writes_at (gap b ∷ pieces) address = writes_at pieces address
writes_at (record_of digits ∷ pieces) address =
    covered (claim_of digits).address (claim_of digits).length address + writes_at pieces address

-- A cell that is there where so many records are at least some number.
abbrev pub cell_from : ℕ → ℕ → Option ℕ
cell_from least count = if nat_le least count then Some 0 else None

-- An image with a cell at each address at which more than one record puts a byte.
unfoldable pub written_again : List Part → List (Option ℕ)
written_again pieces = map (λ a. cell_from 2 (writes_at pieces a)) (range_with_len 0 65536)

-- The ranges of these addresses, in rising order.
abbrev pub overlaps_of : List Part → List Range
overlaps_of pieces = ranges_of (written_again pieces)

-- The ranges of the addresses for which more than one data record of a text of Intel HEX or of
-- S-records has a byte, in rising order.
abbrev pub AreTextOverlaps : TextForm → List ℕ → List Range → Type 0
AreTextOverlaps form text overlaps = (again : List (Option ℕ)) × (text_overlaps form text ≡ Ok again)
    × (overlaps ≡ ranges_of again)

-- ---- what the code notes of a tape

-- Two images have a cell where one record or more, and where two or more, put a byte, if so many do
-- at each address.
pub record AreNoted (once again : List (Option ℕ)) (count : ℕ → ℕ) : Type 0 where
  pub once_size : length once ≡ 65536
  pub again_size : length again ≡ 65536
  pub first : (a : ℕ) → a < 65536 → cell_at once a ≡ cell_from 1 (count a)
  pub second : (a : ℕ) → a < 65536 → cell_at again a ≡ cell_from 2 (count a)

-- An image with a cell put at an address if that is asked for.
abbrev pub with_cell_if : List (Option ℕ) → ℕ → Bool → List (Option ℕ)
with_cell_if cells address true = slice_set cells address (Some 0)
with_cell_if cells address false = cells

-- How many more put one, with so many bytes from an address on.
abbrev pub with_bytes : (ℕ → ℕ) → ℕ → ℕ → ℕ → ℕ
with_bytes count first many = λ a. count a + covered first many a

-- The byte that two digits write, the high one first.
abbrev pub pair_at : List ℕ → ℕ → ℕ
pair_at digits index = digit_value (slice_index digits index) * 16
    + digit_value (slice_index digits (index + 1))

-- 1 where a record puts a byte at an address, by the digits that begin with its own: its length, and
-- its address.
abbrev pub covered_by : List ℕ → ℕ → ℕ
covered_by digits address = covered (pair_at digits 2 * 256 + pair_at digits 4) (pair_at digits 0)
    address

abbrev pub with_digits : (ℕ → ℕ) → List ℕ → ℕ → ℕ
with_digits count digits = λ a. count a + covered_by digits a

-- The same of the record that begins at a place of a text, if one does.
abbrev pub written_at : List ℕ → ℕ → ℕ → ℕ
written_at text place address = if slice_index text place == 59
    then covered_by (drop (place + 1) text) address else 0

abbrev pub with_place : (ℕ → ℕ) → List ℕ → ℕ → ℕ → ℕ
with_place count text place = λ a. count a + written_at text place a
