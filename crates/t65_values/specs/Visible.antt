-- How bytes of a file are told: by their characters. Sources: RFC 3629 for UTF-8, as std's
-- definitions have it; Unicode for control characters and the ends of lines and paragraphs; XML
-- 1.0, production 2, for what can be a character of a report. What stands for the others: mos65.
use Rattle.std.specs.Prelude.{ℕ, ◌==◌, ◌||◌, Bool, if◌then◌else◌, List, chars, flat_map}
use Rattle.std.specs.Char.{encode_utf8, is_control}
use Rattle.std.specs.Str.Lossy.{utf8_lossy}

-- The characters of some bytes, with U+FFFD for each sequence that is no UTF-8.
abbrev pub characters : List ℕ → List ℕ
characters bytes = chars (utf8_lossy bytes)

-- The ends of a line and of a paragraph, what stands for no UTF-8, and what XML has not.
abbrev pub is_special : ℕ → Bool
is_special c = (c == 0x2028) || (c == 0x2029) || (c == 0xFFFD) || (c == 0xFFFE) || (c == 0xFFFF)

-- A tab is told as a space, and what is no visible character as `?`.
abbrev pub visible : ℕ → ℕ
visible c = if c == 9 then 32 else if is_control c || is_special c then 63 else c

abbrev pub visible_character : ℕ → List ℕ
visible_character c = encode_utf8 (visible c)

-- Bytes as they are told.
abbrev pub visible_text : List ℕ → List ℕ
visible_text bytes = flat_map visible_character (characters bytes)
