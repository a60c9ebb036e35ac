-- Text in which nothing ends a script or begins markup. Source: mos65.
use Rattle.std.specs.Prelude.{ℕ, ◌==◌, Bool, not, ◌&&◌, ◌||◌, nat_le, if◌then◌else◌, List, [], ◌∷◌}
use Rattle.std.specs.List.{flat_map, list_all}
use Rattle.model.specs.Text.{hex_byte}

-- Whether a byte may begin markup, or a reference to a character: `&`, `<` and `>`.
abbrev pub is_markup : ℕ → Bool
is_markup b = (b == 38) || (b == 60) || (b == 62)

-- The alphabet of the parts: a line feed, and printable bytes of ASCII that are no markup.
abbrev pub is_safe : ℕ → Bool
is_safe b = (b == 10) || (nat_le 32 b && nat_le b 126 && not (is_markup b))

-- A byte of it that stands for itself: `%` begins an escape.
abbrev pub is_plain : ℕ → Bool
is_plain b = is_safe b && not (b == 37)

-- A byte as it is written: itself, or `%` and two hex digits.
abbrev pub escape : ℕ → List ℕ
escape b = if is_plain b then b ∷ [] else 37 ∷ hex_byte b

abbrev pub escaped : List ℕ → List ℕ
escaped bytes = flat_map escape bytes

-- Whether text consists of bytes of the alphabet.
abbrev pub is_safe_text : List ℕ → Bool
is_safe_text text = list_all is_safe text
