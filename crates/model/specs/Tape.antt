-- Tape texts: what they are made of, what they denote, and the first fault of any other text.
-- Source: KIM-1 manual for the form of the records, from `;` to checksum; mos65 for what may come
-- between them, for each fault and for its place.
use Rattle.std.specs.Prelude.{◌≡◌, ◌≢◌, ℕ, ◌+◌, ◌*◌, ◌%◌, ◌<◌, ◌≤◌, ◌==◌, ◌||◌, Bool, List, [], ◌∷◌, ◌++◌, length, sum, take, drop, slice_index, slice_set, Option, ◌⊎◌}
use Rattle.std.specs.List.{flat_map, list_all, AllByRecursion}
use Rattle.model.specs.Digits.{digit_value, is_hex_byte}
use Rattle.model.specs.declared.tape.TapeFaultKind.{TapeFaultKind}
use Rattle.model.specs.declared.tape.TapeFaultKind.TheVariants.{NoRecord, BadHex, BadChecksum, PastEnd, Truncated, BadCount, JunkAfterEnd, JunkBetween, OutOfMemory, TooLong}
use Rattle.model.specs.Image.{empty_image, with_bytes}

-- ---- the digits of a record

-- The bytes that pairs of digits write, the high digit first. Source: KIM-1 manual.
abbrev pub bytes_of_digits : List ℕ → List ℕ
bytes_of_digits [] = []
bytes_of_digits (d ∷ []) = []
bytes_of_digits (high ∷ low ∷ digits)
    = (digit_value high * 16 + digit_value low) ∷ bytes_of_digits digits

-- How many digits a record has that begins so: two for the length, four for the address, two for
-- each byte of data, four for the checksum. Source: KIM-1 manual.
abbrev pub needed : List ℕ → ℕ
needed [] = 10
needed (d ∷ []) = 10
needed (high ∷ low ∷ digits) = 10 + 2 * (digit_value high * 16 + digit_value low)

-- What a record claims. In an end record the length is 0, and the number of data records is in the
-- address's place. Source: KIM-1 manual.
pub record Claim : Type 0 where
  pub length : ℕ
  pub address : ℕ
  pub bytes : List ℕ
  -- the sum of the bytes before the checksum, modulo 65536
  pub sum : ℕ
  pub checksum : ℕ

-- What the bytes of a record claim: length, address, data, checksum, each number with its high byte
-- first. Source: KIM-1 manual.
abbrev pub claim_in : List ℕ → Claim
claim_in bytes =
    let n = slice_index bytes 0 in
    record {
      length = n;
      address = slice_index bytes 1 * 256 + slice_index bytes 2;
      bytes = take n (drop 3 bytes);
      sum = sum (take (3 + n) bytes) % 65536;
      checksum = slice_index bytes (3 + n) * 256 + slice_index bytes (4 + n);
    }

-- What the digits of a record claim. Source: KIM-1 manual.
unfoldable pub claim_of : List ℕ → Claim
claim_of digits = claim_in (bytes_of_digits digits)

-- All digits of a record: hex digits, as many as the first two say. Source: KIM-1 manual.
abbrev pub AreAllDigits : List ℕ → Type 0
AreAllDigits digits = (list_all is_hex_byte digits ≡ Bool.true) × (length digits ≡ needed digits)

-- The first digits of a record, with at least one still to come. Source: KIM-1 manual.
abbrev pub AreFewDigits : List ℕ → Type 0
AreFewDigits digits = (list_all is_hex_byte digits ≡ Bool.true) × (length digits < needed digits)

-- ---- pieces

-- A byte that is skipped outside records: $00, CR, LF, $13. Source: mos65.
abbrev pub is_skipped : ℕ → Bool
is_skipped b = (b == 0) || (b == 13) || (b == 10) || (b == 19)

-- What comes before the end record: a skipped byte, or a data record by the digits after its `;`.
-- Source: mos65.
pub data Part : Type 0 where
  gap : ℕ → Part
  record_of : List ℕ → Part

-- How a piece is spelled. Source: KIM-1 manual.
abbrev pub text_of : Part → List ℕ
text_of (gap b) = b ∷ []
text_of (record_of digits) = 59 ∷ digits

-- A data record: 1 to 255 bytes, the checksum is the sum, and no byte goes past address 65535.
-- Source: KIM-1 manual; mos65 for the bounds.
pub record IsData (digits : List ℕ) : Type 0 where
  pub all : AreAllDigits digits
  pub some : 0 < (claim_of digits).length
  pub checked : (claim_of digits).sum ≡ (claim_of digits).checksum
  pub fits : (claim_of digits).address + (claim_of digits).length ≤ 65536

-- The end record after so many data records: no data, the checksum is the sum, and the number is
-- theirs. Source: KIM-1 manual.
pub record IsEnd (count : ℕ) (digits : List ℕ) : Type 0 where
  pub all : AreAllDigits digits
  pub none : (claim_of digits).length ≡ 0
  pub checked : (claim_of digits).sum ≡ (claim_of digits).checksum
  pub counted : (claim_of digits).address ≡ count

-- A skipped byte, or a data record. Source: mos65.
abbrev pub IsPiece : Part → Type 0
IsPiece (gap b) = is_skipped b ≡ Bool.true
IsPiece (record_of digits) = IsData digits

-- The text of pieces, one after the other. Source: mos65.
abbrev pub front_of : List Part → List ℕ
front_of pieces = flat_map text_of pieces

-- How many of the pieces are data records. Source: mos65.
abbrev pub count_of : List Part → ℕ
count_of [] = 0
count_of (gap b ∷ pieces) = count_of pieces
count_of (record_of digits ∷ pieces) = 1 + count_of pieces

-- The image with each record's bytes put in turn, so that a later one counts. Source: mos65.
abbrev pub with_records : List (Option ℕ) → List Part → List (Option ℕ)
with_records cells [] = cells
with_records cells (gap b ∷ pieces) = with_records cells pieces
with_records cells (record_of digits ∷ pieces)
    = with_records (with_bytes cells (claim_of digits).address (claim_of digits).bytes) pieces

-- ---- what a text denotes

-- A text denotes an image: it is data records and skipped bytes, the end record that counts them,
-- and skipped bytes; the image has what the records put. Source: KIM-1 manual for the records,
-- mos65 for the rest.
pub record TapeDenotes (text : List ℕ) (cells : List (Option ℕ)) : Type 0 where
  pub pieces : List Part
  pub digits : List ℕ
  pub tail : List ℕ
  pub spelled : text ≡ front_of pieces ++ (59 ∷ digits ++ tail)
  pub each : AllByRecursion IsPiece pieces
  pub end : IsEnd (count_of pieces) digits
  pub rest : list_all is_skipped tail ≡ Bool.true
  pub union : cells ≡ with_records empty_image pieces

-- ---- the first fault

-- After pieces with so many data records the rest of the text goes on in a way that no tape does.
-- The kind says how, and the offset, counted in the rest, says where that shows. Source: mos65.
--
-- - NoRecord: the rest is empty, and there was no data record.
-- - BadHex: a record begins, and after some of its digits comes a byte that is not a hex digit; the
--   offset is that byte's.
-- - BadChecksum: all digits of a record are there, and the sum is not the checksum; the offset is
--   that of the record's `;`.
-- - PastEnd: a data record whose checksum is right has bytes past address 65535; the offset is that
--   of its `;`.
-- - Truncated: the rest is empty after data records, or ends among the digits of a record; the
--   offset is the end.
-- - BadCount: an end record whose checksum is right has another number than there are data records;
--   the offset is that of its `;`.
-- - JunkAfterEnd: after the end record and skipped bytes comes a byte that is not skipped; the
--   offset is that byte's.
-- - JunkBetween: the next byte is neither skipped nor a `;`; the offset is that byte's.
-- - OutOfMemory, TooLong: no text has this fault.
abbrev pub Breaks : TapeFaultKind → ℕ → List ℕ → ℕ → Type 0
Breaks NoRecord count rest place = (count ≡ 0) × (rest ≡ []) × (place ≡ 0)
Breaks BadHex count rest place =
    (digits : List ℕ) × (b : ℕ) × (more : List ℕ) × (rest ≡ 59 ∷ digits ++ b ∷ more)
    × AreFewDigits digits × (is_hex_byte b ≡ Bool.false) × (place ≡ 1 + length digits)
Breaks BadChecksum count rest place =
    (digits : List ℕ) × (more : List ℕ) × (rest ≡ 59 ∷ digits ++ more) × AreAllDigits digits
    × ((claim_of digits).sum ≢ (claim_of digits).checksum) × (place ≡ 0)
Breaks PastEnd count rest place =
    (digits : List ℕ) × (more : List ℕ) × (rest ≡ 59 ∷ digits ++ more) × AreAllDigits digits
    × (0 < (claim_of digits).length) × ((claim_of digits).sum ≡ (claim_of digits).checksum)
    × (65536 < (claim_of digits).address + (claim_of digits).length) × (place ≡ 0)
Breaks Truncated count rest place =
    ((count ≢ 0) × (rest ≡ []) × (place ≡ 0)) ⊎ ((digits : List ℕ) × (rest ≡ 59 ∷ digits)
    × AreFewDigits digits × (place ≡ 1 + length digits))
Breaks BadCount count rest place =
    (digits : List ℕ) × (more : List ℕ) × (rest ≡ 59 ∷ digits ++ more) × AreAllDigits digits
    × ((claim_of digits).length ≡ 0) × ((claim_of digits).sum ≡ (claim_of digits).checksum)
    × ((claim_of digits).address ≢ count) × (place ≡ 0)
Breaks JunkAfterEnd count rest place =
    (digits : List ℕ) × (tail : List ℕ) × (b : ℕ) × (more : List ℕ)
    × (rest ≡ 59 ∷ digits ++ (tail ++ b ∷ more)) × IsEnd count digits
    × (list_all is_skipped tail ≡ Bool.true) × (is_skipped b ≡ Bool.false)
    × (place ≡ 1 + length digits + length tail)
Breaks JunkBetween count rest place =
    (b : ℕ) × (more : List ℕ) × (rest ≡ b ∷ more) × (is_skipped b ≡ Bool.false) × (b ≢ 59)
    × (place ≡ 0)
Breaks OutOfMemory count rest place = ⊥
Breaks TooLong count rest place = ⊥

-- The first fault of a text, from left to right: pieces, and then a rest that breaks; the offset
-- counts from the text's beginning. Source: mos65.
pub record FirstFault (text : List ℕ) (kind : TapeFaultKind) (offset : ℕ) : Type 0 where
  pub pieces : List Part
  pub rest : List ℕ
  pub place : ℕ
  pub spelled : text ≡ front_of pieces ++ rest
  pub each : AllByRecursion IsPiece pieces
  pub breaks : Breaks kind (count_of pieces) rest place
  pub there : offset ≡ length (front_of pieces) + place

-- ---- that this is one reading of each text

-- Each text denotes an image or has a first fault. Source: mos65.
abbrev pub EachTextIsRead : Type 0
EachTextIsRead = (text : List ℕ) → ((cells : List (Option ℕ)) × TapeDenotes text cells)
    ⊎ ((kind : TapeFaultKind) × (offset : ℕ) × FirstFault text kind offset)

-- No text denotes two images. Source: mos65.
abbrev pub OneTapeImage : Type 0
OneTapeImage = (text : List ℕ) (a b : List (Option ℕ)) → TapeDenotes text a → TapeDenotes text b
    → a ≡ b

-- No text has two first faults, nor one at two offsets. Source: mos65.
abbrev pub OneTapeFault : Type 0
OneTapeFault = (text : List ℕ) (k l : TapeFaultKind) (m n : ℕ) → FirstFault text k m
    → FirstFault text l n → (k ≡ l) × (m ≡ n)

-- No text does both. Source: mos65.
abbrev pub TapeImageOrFault : Type 0
TapeImageOrFault = (text : List ℕ) (cells : List (Option ℕ)) (kind : TapeFaultKind) (offset : ℕ)
    → TapeDenotes text cells → FirstFault text kind offset → ⊥

-- ---- one digit changed

-- In a text that denotes an image, one digit of a record's address, data or checksum is changed to
-- a digit of another value; in an end record the number is in the address's place. The text is then
-- rejected with BadChecksum at that record's `;`. Source: mos65.
abbrev pub OneDigitIsRefused : Type 0
OneDigitIsRefused =
    (text : List ℕ) (cells : List (Option ℕ)) (pieces : List Part) (digits : List ℕ) (more : List ℕ)
    (k d : ℕ)
    → TapeDenotes text cells
    → text ≡ front_of pieces ++ (59 ∷ digits ++ more)
    → AllByRecursion IsPiece pieces
    → AreAllDigits digits
    → 2 ≤ k → k < length digits
    → is_hex_byte d ≡ Bool.true
    → digit_value d ≢ digit_value (slice_index digits k)
    → FirstFault (front_of pieces ++ (59 ∷ slice_set digits k d ++ more)) BadChecksum
    (length (front_of pieces))
