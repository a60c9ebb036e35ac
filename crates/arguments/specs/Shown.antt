-- How names are shown on a terminal and in texts of lines: those of files, and those that files
-- have. Sources: Unicode for control characters, for the separators of lines and paragraphs, and for
-- its property Bidi_Control; RFC 3629 for UTF-8, as std's definitions have it. The `?`: mos65.
use Rattle.std.specs.Char.{encode_utf8, is_control}
use Rattle.std.specs.Int.{is_in_range}
use Rattle.std.specs.Prelude.{ℕ, ◌==◌, ◌||◌, Bool, List, chars, flat_map, if◌then◌else◌}
use Rattle.std.specs.Str.Lossy.{utf8_lossy}

-- What ends a line or a paragraph, 2028 and 2029, or turns the direction of what stands behind it,
-- as all others do.
abbrev pub breaks_or_turns : ℕ → Bool
breaks_or_turns c = (c == 0x61C) || is_in_range 0x200E 0x200F c || is_in_range 0x2028 0x202E c
    || is_in_range 0x2066 0x2069 c

-- A control character, and what breaks or turns a line, is shown as `?`; each other as itself.
abbrev pub shown_char : ℕ → List ℕ
shown_char c = encode_utf8 (if is_control c || breaks_or_turns c then 63 else c)

abbrev pub shown_name : List ℕ → List ℕ
shown_name name = flat_map shown_char (chars name)

-- A name of any bytes: U+FFFD stands for each sequence that is no UTF-8.
abbrev pub shown_bytes : List ℕ → List ℕ
shown_bytes name = shown_name (utf8_lossy name)
