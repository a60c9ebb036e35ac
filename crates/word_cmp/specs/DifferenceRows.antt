-- The rows that tell how two tapes differ. Source: mos65.
use Rattle.std.specs.Prelude.{ℕ, zero, suc, ◌+◌, ◌-◌, ◌^◌, ◌==◌, ◌&&◌, ◌||◌, not, Bool, true, false, if◌then◌else◌, is_some, List, [], ◌∷◌, ◌++◌, Option, Some, None, codes, encode_utf8_all, slice_get}
use Rattle.std.specs.Fmt.{digits, format_spec, padded_integral}
use Rattle.std.specs.Option.{unwrap_or}
use Rattle.model.specs.Image.{cell_at}
use Rattle.model.specs.declared.instruction.Profile.{Profile}
use Rattle.tape_words.specs.Answers.{counted}
use Rattle.tape_words.specs.Instructions.{len_by, row_at, text_by}
use Rattle.tape_words.specs.declared.wording.TheConstants.{BYTE, BYTES}
use Rattle.word_cmp.specs.declared.wording.TheConstants.{NO_BYTE, ON, ONLY}

-- ---- the instruction that has a byte

-- Where the instruction begins that was read last, and how many of its bytes are still to come.
pub record Reading : Type 0 where
  pub start : ℕ
  pub left : ℕ

-- The reading after one address more. It stays in an instruction while bytes of it are to come, and
-- otherwise the next one begins there. A gap is read as one of one byte.
abbrev pub one_address_more : Profile → List (Option ℕ) → ℕ → Reading → Reading
one_address_more profile image address reading = if reading.left == 0
    then record { start = address; left = len_by (row_at profile image address) - 1 }
    else record { start = reading.start; left = reading.left - 1 }

-- The reading of all addresses below a bound, from $0000 on.
unfoldable pub read_below : Profile → List (Option ℕ) → ℕ → Reading
read_below profile image zero = record { start = 0; left = 0 }
read_below profile image (suc address)
    = one_address_more profile image address (read_below profile image address)

-- For each address below a bound the one at which the instruction begins that has its byte.
unfoldable pub starts_below : Profile → List (Option ℕ) → ℕ → List ℕ
starts_below profile image zero = []
starts_below profile image (suc address) = starts_below profile image address
    ++ (read_below profile image (suc address)).start ∷ []

-- For each address. No instruction goes past a gap, so that a range is read from its first address.
abbrev pub starts_of : Profile → List (Option ℕ) → List ℕ
starts_of profile image = starts_below profile image 65536

-- ---- a side of a comparison

-- A tape with its file's name, the processor whose instructions are shown, and for each address the
-- one at which its instruction begins.
pub record SideView : Type 0 where
  pub name : List ℕ
  pub image : List (Option ℕ)
  pub starts : List ℕ
  pub profile : Profile

-- The side that a tape is.
abbrev pub side_of : List ℕ → List (Option ℕ) → Profile → SideView
side_of name image profile
    = record { name = name; image = image; starts = starts_of profile image; profile = profile }

-- Whether a side has a byte at an address.
abbrev pub has : SideView → ℕ → Bool
has side address = is_some (cell_at side.image address)

-- Whether it alone has one.
abbrev pub is_alone : SideView → SideView → ℕ → Bool
is_alone side other address = has side address && not (has other address)

-- So many capital hex digits, more where a number has more.
abbrev pub hex_of : ℕ → ℕ → List ℕ
hex_of width number = padded_integral (format_spec 32 0 4 width (2 ^ 64 - 1)) false []
    (digits 16 true number)

-- A cell as text.
abbrev pub cell_text : Option ℕ → List ℕ
cell_text None = NO_BYTE.now
cell_text (Some byte) = hex_of 2 byte

-- The byte of a side at an address.
abbrev pub byte_text : SideView → ℕ → List ℕ
byte_text side address = cell_text (cell_at side.image address)

-- Where the instruction begins that has the byte at an address.
abbrev pub start_at : SideView → ℕ → ℕ
start_at side address = unwrap_or (slice_get side.starts address) address

-- The instruction that has the byte at an address.
abbrev pub instruction_text : SideView → ℕ → List ℕ
instruction_text side address
    = encode_utf8_all (text_by (row_at side.profile side.image (start_at side address)))

-- ---- a row

-- The row of an address at which both sides have a byte: both bytes and both instructions.
unfoldable pub row_text : SideView → SideView → ℕ → List ℕ
row_text one other address = hex_of 4 address ++ codes "  " ++ byte_text one address
    ++ codes " " ++ byte_text other address ++ codes "  " ++ instruction_text one address
    ++ codes " | " ++ instruction_text other address ++ codes "\n"

-- The row of a range that one side alone has: its first address and its last, how many bytes it
-- has, and the side's name.
unfoldable pub range_text : SideView → ℕ → ℕ → List ℕ
range_text side first last = hex_of 4 first ++ codes "-" ++ hex_of 4 last ++ codes "  "
    ++ counted (last - first + 1) BYTE.now BYTES.now ++ ON.now ++ side.name ++ ONLY.now

-- ---- all rows

-- Whether an address goes on with the range of an address before it: it is the next one, and one
-- side alone has both.
abbrev pub goes_on : SideView → SideView → ℕ → ℕ → Bool
goes_on side other before address = (before + 1 == address)
    && is_alone side other before && is_alone side other address

-- The last address of the range that begins with an address, by those that come after it.
unfoldable pub range_end : SideView → SideView → ℕ → List ℕ → ℕ
range_end side other address [] = address
range_end side other address (next ∷ more) = if goes_on side other address next
    then range_end side other next more else address

-- Whether an address stands within a range that has begun before it.
abbrev pub is_within : SideView → SideView → Option ℕ → ℕ → Bool
is_within one other None address = false
is_within one other (Some before) address
    = goes_on one other before address || goes_on other one before address

-- The row that begins with an address, by the addresses that come after it.
abbrev pub first_row : SideView → SideView → ℕ → List ℕ → List ℕ
first_row one other address more = if is_alone one other address
    then range_text one address (range_end one other address more)
    else if is_alone other one address
    then range_text other address (range_end other one address more)
    else row_text one other address

-- What is told of an address, by the one before it and those after it.
abbrev pub told_of : SideView → SideView → Option ℕ → ℕ → List ℕ → List ℕ
told_of one other before address more = if is_within one other before address then []
    else first_row one other address more

-- The rows of the addresses that come after one.
unfoldable pub rows_after : SideView → SideView → Option ℕ → List ℕ → List ℕ
rows_after one other before [] = []
rows_after one other before (address ∷ more) = told_of one other before address more
    ++ rows_after one other (Some address) more

-- The rows of addresses at which two sides differ, in rising order: one for each range that one
-- side alone has, and one for each address at which both have a byte.
abbrev pub rows_of : SideView → SideView → List ℕ → List ℕ
rows_of one other differences = rows_after one other None differences
