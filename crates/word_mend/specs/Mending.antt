-- What `mend` makes of a tape. Source: mos65.
use Rattle.std.specs.Prelude.{◌≡◌, ℕ, ◌-◌, ◌%◌, ◌==◌, ◌&&◌, ◌⊎◌, Bool, true, not, if◌then◌else◌, List, [], ◌∷◌, ◌++◌, length, take, drop, slice_index, Option, Some, None}
use Rattle.std.specs.List.{filter, count_by, list_all, AllByRecursion}
use Rattle.model.specs.Digits.{is_hex_byte}
use Rattle.model.specs.Image.{empty_image}
use Rattle.model.specs.Tape.{FirstFault, Part, IsPiece, front_of, is_skipped, with_records}
use Rattle.model.specs.TapeText.{end_line}
use Rattle.model.specs.declared.tape.TapeFault.{TapeFault}

-- A byte that is neither a line end, $00 nor $13: those are skipped outside of records.
abbrev pub is_kept : ℕ → Bool
is_kept b = not (is_skipped b)

-- The bytes of a text without those.
unfoldable pub kept : List ℕ → List ℕ
kept text = filter is_kept text

-- An end record, whatever it counts and whatever its sum: `;00` and eight hex digits more.
unfoldable pub is_end_record : List ℕ → Bool
is_end_record text =
    length text == 11 && slice_index text 0 == 59 && slice_index text 1 == 48
    && slice_index text 2 == 48 && list_all is_hex_byte (drop 1 text)

-- What comes before the end record, if the last eleven bytes are one; otherwise all.
unfoldable pub before_end : List ℕ → List ℕ
before_end text = if is_end_record (drop (length text - 11) text)
    then take (length text - 11) text else text

-- A record ends where a `;` comes next, or nothing.
abbrev pub is_at_end : List ℕ → Bool
is_at_end [] = true
is_at_end (b ∷ rest) = b == 59

-- CR LF after each record.
unfoldable pub with_line_ends : List ℕ → List ℕ
with_line_ends [] = []
with_line_ends (b ∷ rest) = if is_at_end rest then b ∷ 13 ∷ 10 ∷ with_line_ends rest
    else b ∷ with_line_ends rest

-- How many records begin in a text.
unfoldable pub records_in : List ℕ → ℕ
records_in text = count_by (λ b. b == 59) text

-- The records of some kept bytes as they stand, each in a line of its own, and the end record that
-- counts them. A text without a record stays without one.
unfoldable pub mended_of : List ℕ → List ℕ
mended_of [] = []
mended_of (b ∷ bytes) =
    let records = before_end (b ∷ bytes) in
    with_line_ends records ++ end_line (records_in records % 65536)

-- The mended text of a tape.
unfoldable pub mended_text : List ℕ → List ℕ
mended_text text = mended_of (kept text)

-- ---- what it means

-- The data records of a tape as they stand, and the image that they put: without line ends, $00 and
-- $13 the text is right data records, and then nothing, or an end record, whatever that says.
pub record HasRecords (text : List ℕ) (cells : List (Option ℕ)) : Type 0 where
  pub pieces : List Part
  pub ending : List ℕ
  pub spelled : kept text ≡ front_of pieces ++ ending
  pub each : AllByRecursion IsPiece pieces
  pub end : (ending ≡ []) ⊎ (is_end_record ending ≡ true)
  pub union : cells ≡ with_records empty_image pieces

-- What `mend` writes: a right tape as it is; otherwise the mended text, where the tape had a fault.
abbrev pub IsMendedText : List ℕ → List ℕ → Option TapeFault → Type 0
IsMendedText text out None = out ≡ text
IsMendedText text out (Some fault) =
    (out ≡ mended_text text) × FirstFault text fault.kind fault.offset
