-- The rows of an alignment as text. Source: mos65.
use Rattle.std.specs.Prelude.{ℕ, Bool, true, false, if◌then◌else◌, List, [], ◌++◌, codes}
use Rattle.std.specs.List.{flat_map}
use Rattle.word_cmp.specs.DifferenceRows.{SideView, hex_of, instruction_text}
use Rattle.word_cmp.specs.declared.alignment.Row.{Row}
use Rattle.word_cmp.specs.declared.alignment.Row.TheVariants.{Same, Changed, OnlyOne, OnlyOther}
use Rattle.word_cmp.specs.declared.parts.Content.{Content}
use Rattle.word_cmp.specs.declared.parts.Content.TheVariants.{Begin, One, Two, Three}
use Rattle.word_cmp.specs.declared.parts.Part.{Part}

-- The bytes of an instruction, or the address at which a range begins.
abbrev pub bytes_text : Content → List ℕ
bytes_text (Begin address) = codes "*=$" ++ hex_of 4 address
bytes_text (One first) = hex_of 2 first
bytes_text (Two first second) = hex_of 2 first ++ codes " " ++ hex_of 2 second
bytes_text (Three first second third) = hex_of 2 first ++ codes " " ++ hex_of 2 second
    ++ codes " " ++ hex_of 2 third

-- Whether a part is the begin of a range.
abbrev pub is_begin : Content → Bool
is_begin (Begin address) = true
is_begin content = false

-- A part: an instruction behind its bytes, or the address at which a range begins.
unfoldable pub part_text : SideView → Part → List ℕ
part_text side part = bytes_text part.content ++ (if is_begin part.content then []
    else codes "  " ++ instruction_text side part.address)

-- Two parts that are not the same: where both stand, and both.
unfoldable pub changed_text : SideView → SideView → Part → Part → List ℕ
changed_text one other a b = hex_of 4 a.address ++ codes " " ++ hex_of 4 b.address ++ codes "  "
    ++ part_text one a ++ codes " | " ++ part_text other b ++ codes "\n"

-- A part that the one side alone has.
unfoldable pub alone_text : SideView → Part → List ℕ
alone_text one a = hex_of 4 a.address ++ codes " ----  " ++ part_text one a ++ codes " |\n"

-- A part that the other side alone has.
unfoldable pub beside_text : SideView → Part → List ℕ
beside_text other b = codes "---- " ++ hex_of 4 b.address ++ codes "  | " ++ part_text other b
    ++ codes "\n"

-- A row. Where its parts are the same there is none.
abbrev pub row_text : SideView → SideView → Row → List ℕ
row_text one other (Same a b) = []
row_text one other (Changed a b) = changed_text one other a b
row_text one other (OnlyOne a) = alone_text one a
row_text one other (OnlyOther b) = beside_text other b

-- All rows.
abbrev pub rows_text : SideView → SideView → List Row → List ℕ
rows_text one other rows = flat_map (row_text one other) rows
