-- Lines in which other tools write a name and its address. Sources: the manual of VICE (monitor,
-- `add_label`), the manual of 64tass (`--labels`, `--vice-labels`), the documentation of ld65
-- (`-Ln`, `--dbgfile`) with cc65's own reader of debug files (`src/dbginfo/dbginfo.c`), and the
-- table that DASM writes for `-s` (`src/main.c`).
use Rattle.std.specs.Prelude.{ℕ, ◌==◌, ◌||◌, Bool, if◌then◌else◌, List, [], ◌∷◌, ◌++◌, codes, length, drop, take, position, Option, Some, None}
use Rattle.std.specs.List.{starts_with}
use Rattle.std.specs.Option.{option_map, unwrap_or}
use Rattle.std.specs.Str.{byte}
use Rattle.lexer.specs.Front.{field_length, first_field, without_blanks}

-- The hex digits of an address, and a name.
pub record Label : Type 0 where
  pub digits : List ℕ
  pub name : List ℕ

-- A text begins with another.
abbrev pub begins : List ℕ → List ℕ → Bool
begins text front = starts_with (λ a b. a == b) text front

-- ---- the monitor of VICE: `al C:0200 .loop`, or without `C:`

-- `C:` before an address names the memory of the processor.
abbrev pub behind_bank : List ℕ → List ℕ
behind_bank text = if begins text (codes "C:") then drop 2 text else text

-- A name begins behind ` .`, if that stands at the first blank.
abbrev pub parted : List ℕ → Option ℕ → Option Label
parted text None = None
parted text (Some at) = if begins (drop at text) (codes " .")
    then Some (record { digits = take at text; name = drop 2 (drop at text) }) else None

abbrev pub label_in : List ℕ → Option Label
label_in text = parted text (position (λ b. b == byte " ") text)

unfoldable pub label_of : List ℕ → Option Label
label_of line = if begins line (codes "al ") then label_in (behind_bank (drop 3 line)) else None

-- ---- a debug file of ld65: `sym`, a tab, and fields `NAME=VALUE` with commas between them

-- What stands behind the first place of a key.
unfoldable pub behind_key : List ℕ → List ℕ → Option (List ℕ)
behind_key key [] = None
behind_key key (b ∷ bytes) = if begins (b ∷ bytes) key
    then Some (drop (length key) (b ∷ bytes)) else behind_key key bytes

-- The bytes before the first one that is this: all if none is.
abbrev pub before : ℕ → List ℕ → List ℕ
before end text = take (unwrap_or (position (λ b. b == end) text) (length text)) text

-- A field begins behind its key.
abbrev pub field : List ℕ → ℕ → List ℕ → Option (List ℕ)
field key end line = option_map (before end) (behind_key key line)

abbrev pub with_fields : Option (List ℕ) → Option (List ℕ) → Option Label
with_fields (Some name) (Some digits) = Some (record { digits = digits; name = name })
with_fields (Some name) None = None
with_fields None digits = None

-- A symbol has a name, and if it is defined in its module a value.
unfoldable pub debug_label : List ℕ → Option Label
debug_label line = if begins line (codes "sym\t")
    then with_fields (field (codes ",name=" ++ 34 ∷ []) 34 line)
    (field (codes ",val=0x") (byte ",") line) else None

-- ---- the table of DASM: a name, blanks, hex digits, and then nothing or `(`

-- What is behind the digits: blanks alone, or blanks and `(`.
abbrev pub is_row_end : List ℕ → Bool
is_row_end text = length text == 0 || begins text (codes "(")

abbrev pub row_in : List ℕ → List ℕ → Option Label
row_in name text = if is_row_end (without_blanks (drop (field_length text) text))
    then Some (record { digits = first_field text; name = name }) else None

unfoldable pub row_label : List ℕ → Option Label
row_label line = row_in (first_field line) (without_blanks (drop (field_length line) line))

-- ---- a label as a line of a source

abbrev pub definition_text : Label → List ℕ
definition_text label = label.name ++ codes "=$" ++ label.digits
