-- A source with labels, written with names. Source: mos65.
use Rattle.std.specs.Prelude.{ℕ, zero, suc, ◌+◌, ◌==◌, ◌&&◌, ◌||◌, not, pos, Bool, false, is_some, if◌then◌else◌, List, [], ◌∷◌, ◌++◌, take, Option, Some, None}
use Rattle.std.specs.Borrow.{Bor}
use Rattle.std.specs.List.{flat_map}
use Rattle.std.specs.Option.{option_and_then, option_map, option_or}
use Rattle.model.specs.Commands.{address_of, byte_of}
use Rattle.model.specs.Image.{cell_at}
use Rattle.model.specs.Listing.{name_row}
use Rattle.model.specs.Names.{Definitions}
use Rattle.model.specs.TextLines.{lines_of}
use Rattle.source_forms.specs.Rows.{ended}
use Rattle.named_source.specs.Names.{name_of}

-- The name of an address at which the image has nothing.
unfoldable pub name_outside : Definitions → List (Option ℕ) → ℕ → Option (List ℕ)
name_outside names image address
    = if is_some (cell_at image address) then None else name_of names address

-- ---- what stands at a place of a line

-- How many bytes it has after the first, and the name to write in their place.
abbrev pub Found : Type 0
Found = Option (ℕ × List ℕ)

abbrev pub found_view : Option (ℕ × Bor (List ℕ)) → Found
found_view found = option_map (λ f. (f.0, f.1.now)) found

-- So many bytes after the first, where there is a name.
abbrev pub found_as : ℕ → Option (List ℕ) → Found
found_as count name = option_map (λ n. (count, n)) name

-- The address that the first four bytes write, and that which the first two do.
abbrev pub word_of : List ℕ → Option ℕ
word_of digits = address_of (take 4 digits)

abbrev pub byte_in : List ℕ → Option ℕ
byte_in digits = byte_of (take 2 digits)

-- A label, `L_HHHH`.
unfoldable pub label_at : Definitions → List ℕ → Found
label_at names [] = None
label_at names (a ∷ []) = None
label_at names (a ∷ b ∷ digits) = if (a == 76) && (b == 95)
    then found_as 5 (option_and_then (name_of names) (word_of digits)) else None

-- An address as a number, `$HHHH`.
unfoldable pub word_at : Definitions → List (Option ℕ) → List ℕ → Found
word_at names image [] = None
word_at names image (a ∷ digits) = if a == 36
    then found_as 4 (option_and_then (name_outside names image) (word_of digits)) else None

-- Whether a number of two digits may be an address after a byte: after a blank, or `(`.
abbrev pub is_before : ℕ → Bool
is_before before = (before == 32) || (before == 40)

-- An address in page 0 as a number, `$HH`.
unfoldable pub byte_at : Definitions → List (Option ℕ) → ℕ → List ℕ → Found
byte_at names image before [] = None
byte_at names image before (a ∷ digits) =
    if (a == 36) && not (is_some (word_of digits)) && is_before before
    then found_as 2 (option_and_then (name_outside names image) (byte_in digits)) else None

-- What stands at the front of the rest of a line, after a byte.
unfoldable pub place_at : Definitions → List (Option ℕ) → ℕ → List ℕ → Found
place_at names image before rest = option_or (label_at names rest)
    (option_or (word_at names image rest) (byte_at names image before rest))

-- ---- a line

-- What is written for a byte, and how many bytes after it are left out.
abbrev pub written_for : ℕ → Found → List ℕ
written_for b None = b ∷ []
written_for b (Some (count, name)) = name

abbrev pub left_out : Found → ℕ
left_out None = 0
left_out (Some (count, name)) = count

-- The rest of a line, after a byte, of which so many bytes are left out.
unfoldable pub rest_named : Definitions → List (Option ℕ) → ℕ → ℕ → List ℕ → List ℕ
rest_named names image before left [] = []
rest_named names image before zero (b ∷ rest) =
    written_for b (place_at names image before (b ∷ rest))
    ++ rest_named names image b (left_out (place_at names image before (b ∷ rest))) rest
rest_named names image before (suc left) (b ∷ rest) = rest_named names image b left rest

-- Whether a line is data or `*=`, which no name changes: it begins with `.B` or `*`.
abbrev pub is_kept : List ℕ → Bool
is_kept [] = false
is_kept (a ∷ []) = a == 42
is_kept (a ∷ b ∷ rest) = (a == 42) || ((a == 46) && (b == 66))

-- A line with names. Its first byte is as after a blank.
unfoldable pub line_named : Definitions → List (Option ℕ) → List ℕ → List ℕ
line_named names image line = if is_kept line then line else rest_named names image 32 0 line

-- ---- a source

-- The line `NAME = $HHHH`.
abbrev pub definition_of : ℕ → Option (List ℕ) → List ℕ
definition_of address None = []
definition_of address (Some name) = name_row (name, pos address)

-- The lines of the names of addresses at which the image has nothing, of so many addresses from
-- one on.
unfoldable pub definitions_from : Definitions → List (Option ℕ) → ℕ → ℕ → List ℕ
definitions_from names image zero address = []
definitions_from names image (suc n) address =
    definition_of address (name_outside names image address)
    ++ definitions_from names image n (address + 1)

-- Those of all addresses.
unfoldable pub definitions : Definitions → List (Option ℕ) → List ℕ
definitions names image = definitions_from names image 65536 0

-- A line with names, and its end.
abbrev pub ended_named : Definitions → List (Option ℕ) → List ℕ → List ℕ
ended_named names image line = ended (line_named names image line)

-- The whole source with names.
unfoldable pub renamed : Definitions → List (Option ℕ) → List ℕ → List ℕ
renamed names image source
    = definitions names image ++ flat_map (ended_named names image) (lines_of source)
