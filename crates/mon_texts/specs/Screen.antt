-- The console's output as text. Source: mos65.
use Rattle.std.specs.Prelude.{ℕ, ◌-◌, ◌==◌, not, false, if◌then◌else◌, nat_lt, Bool, List, [], ◌∷◌, ◌++◌, Option, None, Some, drop, length, slice_get}
use Rattle.std.specs.List.{flat_map}
use Rattle.mon_texts.specs.Memory.{character_text}
use Rattle.mon_texts.specs.declared.wording.TheConstants.{NOTHING_WRITTEN, OUTPUT}

-- What a byte of the output shows: LF ends the line, CR is left out, and any other byte is a
-- character.
abbrev pub output_text : ℕ → List ℕ
output_text byte
    = if byte == 10 then 10 ∷ [] else if byte == 13 then [] else character_text byte

-- Whether the last line of a text is open: whether there is a last byte, and it is no LF.
abbrev pub is_no_lf : Option ℕ → Bool
is_no_lf None = false
is_no_lf (Some last) = not (last == 10)

abbrev pub is_open : List ℕ → Bool
is_open text = is_no_lf (slice_get text (length text - 1))

-- The LF that ends the last line of a text, if that is open.
abbrev pub line_end : List ℕ → List ℕ
line_end text = if is_open text then 10 ∷ [] else []

abbrev pub with_line_end : List ℕ → List ℕ
with_line_end text = text ++ line_end text

-- The console's output, with its last line ended.
unfoldable pub screen_text : List ℕ → List ℕ
screen_text [] = NOTHING_WRITTEN.now
screen_text (byte ∷ output) = with_line_end (flat_map output_text (byte ∷ output))

-- The console's output from a byte on, with its last line ended. Nothing is said where none is.
abbrev pub output_since : ℕ → List ℕ → List ℕ
output_since from output = if nat_lt from (length output)
    then OUTPUT.now ++ with_line_end (flat_map output_text (drop from output)) else []
