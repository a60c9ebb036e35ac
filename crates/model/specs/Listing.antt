-- The listing of a source: each line with its address and its first bytes, and the names. Source:
-- mos65.
use Rattle.std.specs.Prelude.{◌≡◌, ℕ, ◌+◌, ◌-◌, ◌≤◌, nat_lt, ℤ, pos, negsuc, if◌then◌else◌, List, [], ◌∷◌, ◌++◌, map, length, take, drop, replicate, codes, Option, unwrap_or}
use Rattle.std.specs.List.{flat_map}
use Rattle.std.specs.Fmt.{signed_decimal}
use Rattle.model.specs.State.{Map}
use Rattle.model.specs.Image.{empty_image}
use Rattle.model.specs.Text.{hex_byte, hex_address, spaced_bytes}
use Rattle.model.specs.Names.{Definitions, number_in}
use Rattle.model.specs.Layout.{Context, PlacedLine, IsLaidOut, extents_of}
use Rattle.model.specs.Bytes.{Makes}
use Rattle.model.specs.Source.{first_context, read_lines, most_bytes}

-- ---- rows

-- An address in four digits. Only a line without bytes can be at 65536.
abbrev pub address_text : ℕ → List ℕ
address_text address = if nat_lt address 65536 then hex_address address else codes "----"

-- Bytes with a space between them.
abbrev pub with_spaces : List ℕ → List ℕ
with_spaces [] = []
with_spaces (b ∷ bytes) = hex_byte b ++ spaced_bytes bytes

-- A text with spaces after it up to 8 columns.
abbrev pub with_padding : List ℕ → List ℕ
with_padding text = text ++ replicate (8 - length text) 32

-- A further row: up to three bytes.
abbrev pub group_row : ℕ → List ℕ → List ℕ
group_row address bytes = address_text address ++ 32 ∷ 32 ∷ (with_spaces bytes ++ 10 ∷ [])

-- The rows of all further bytes.
abbrev pub group_rows : ℕ → List ℕ → List ℕ
group_rows address [] = []
group_rows address (a ∷ []) = group_row address (a ∷ [])
group_rows address (a ∷ b ∷ []) = group_row address (a ∷ b ∷ [])
group_rows address (a ∷ b ∷ c ∷ bytes)
    = group_row address (a ∷ b ∷ c ∷ []) ++ group_rows (address + 3) bytes

-- A line's address, its first three bytes and its text; and the rows of its further bytes.
abbrev pub line_rows : ℕ → List ℕ → List ℕ → List ℕ
line_rows address bytes line =
    (address_text address
    ++ 32 ∷ 32 ∷ (with_padding (with_spaces (take 3 bytes)) ++ 32 ∷ 32 ∷ (line ++ 10 ∷ [])))
    ++ group_rows (address + 3) (drop 3 bytes)

-- The rows of lines, each with its address and its bytes.
abbrev pub lines_rows : List (List ℕ) → List (ℕ × List ℕ) → List ℕ
lines_rows [] places = []
lines_rows (line ∷ lines) [] = []
lines_rows (line ∷ lines) (p ∷ ps) = line_rows p.0 p.1 line ++ lines_rows lines ps

-- ---- names

-- A number as an address if it is one, otherwise in decimal.
abbrev pub number_text : ℤ → List ℕ
number_text (pos n) = if nat_lt n 65536 then 36 ∷ hex_address n else signed_decimal (pos n)
number_text (negsuc n) = signed_decimal (negsuc n)

abbrev pub name_row : List ℕ × ℤ → List ℕ
name_row d = d.0 ++ codes " = " ++ number_text d.1 ++ 10 ∷ []

-- An empty line before the names, if there are names.
abbrev pub names_rows : Definitions → List ℕ
names_rows [] = []
names_rows (d ∷ ds) = 10 ∷ flat_map name_row (d ∷ ds)

-- ---- the listing

abbrev pub listing_text : List (List ℕ) → List (ℕ × List ℕ) → Definitions → List ℕ
listing_text lines places names = lines_rows lines places ++ names_rows names

-- So many bytes of an image from an address on.
abbrev pub bytes_at : List (Option ℕ) → ℕ → ℕ → List ℕ
bytes_at image address count = map (λ c. unwrap_or c 0) (take count (drop address image))

-- A line's address, and its bytes in the image.
abbrev pub address_and_bytes : List (Option ℕ) → ℕ × ℕ → ℕ × List ℕ
address_and_bytes image place = (place.0, bytes_at image place.0 place.1)

-- The listing of a source under a map: of the lines that are read, with the addresses, bytes and
-- numbers of what it denotes.
pub record IsListing (bus_map : Map) (source text : List ℕ) : Type 0 where
  pub size : length source ≤ most_bytes
  pub placed : List PlacedLine
  pub all : Context
  pub laid : IsLaidOut (first_context bus_map.profile) (read_lines bus_map.profile source) placed all
  pub image : List (Option ℕ)
  pub made : Makes bus_map (number_in all.names) empty_image placed image
  pub rows : text ≡ listing_text (read_lines bus_map.profile source)
      (map (address_and_bytes image) (extents_of placed)) all.names
