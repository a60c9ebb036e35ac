-- Names that an image has and that cannot stand in a source, as other tools write them. Source:
-- mos65.
use Rattle.std.specs.Prelude.{ℕ, ◌==◌, ◌&&◌, ◌||◌, nat_lt, not, Bool, List, length}
use Rattle.std.specs.List.{list_all}
use Rattle.std.specs.Str.{byte}
use Rattle.model.specs.Token.{is_hex_byte, is_word_byte}

-- A letter, a digit, or one of `_ @ . :`.
abbrev pub is_name_byte : ℕ → Bool
is_name_byte b = is_word_byte b || b == byte "@" || b == byte "." || b == byte ":"

-- Such a name has 2 to 63 of these bytes, and is no hex number.
abbrev pub is_image_name : List ℕ → Bool
is_image_name name = nat_lt 1 (length name) && nat_lt (length name) 64
    && list_all is_name_byte name && not (list_all is_hex_byte name)
