-- A line as it is shown, and below it the mark under what is meant. Source: mos65.
use Rattle.std.specs.Prelude.{ℕ, zero, suc, ◌-◌, nat_lt, ◌==◌, ◌||◌, if◌then◌else◌, List, [], ◌∷◌, ◌++◌, Option, None, Some, drop, replicate}
use Rattle.model.specs.Token.{is_source_byte}
use Rattle.source_notes.specs.Characters.{further}
use Rattle.source_notes.specs.declared.note.Note.{Note}

-- Where so many bytes belong to a character that began before, how many do after the first of some
-- bytes.
abbrev pub left_after : ℕ → List ℕ → ℕ
left_after zero bytes = further bytes
left_after (suc left) bytes = left

-- A character is shown as it is, and what is no character, or may not stand in a terminal, as `?`.
abbrev pub shown_first : ℕ → ℕ → ℕ
shown_first more byte = if nat_lt 0 more || is_source_byte byte then byte else 63

abbrev pub shown_byte : ℕ → ℕ → List ℕ → ℕ
shown_byte zero byte rest = shown_first (further (byte ∷ rest)) byte
shown_byte (suc left) byte rest = byte

-- The bytes of a line, of which so many belong to a character that began before.
unfoldable pub shown_from : ℕ → List ℕ → List ℕ
shown_from left [] = []
shown_from left (byte ∷ rest)
    = shown_byte left byte rest ∷ shown_from (left_after left (byte ∷ rest)) rest

-- A tab stands under a tab, and a space under each other character.
abbrev pub blank_below : List ℕ → ℕ
blank_below [] = 32
blank_below (byte ∷ rest) = if byte == 9 then 9 else 32

abbrev pub blank_under : ℕ → List ℕ → List ℕ
blank_under zero bytes = blank_below bytes ∷ []
blank_under (suc left) bytes = []

-- The blanks under so many bytes: one under a character.
unfoldable pub blanks_under : ℕ → ℕ → List ℕ → List ℕ
blanks_under left zero bytes = []
blanks_under left (suc count) bytes
    = blank_under left bytes ++ blanks_under (left_after left bytes) count (drop 1 bytes)

-- `^` under the first byte that is meant, and `~` under each other.
abbrev pub mark : List ℕ → ℕ → ℕ → List ℕ
mark line start width = blanks_under 0 start line ++ 94 ∷ replicate (width - 1) 126

abbrev pub marked_line : List ℕ → ℕ → ℕ → List ℕ
marked_line line start width = shown_from 0 line ++ 10 ∷ (mark line start width ++ 10 ∷ [])

-- What follows a block's head: the words, and the line with its mark, if there is a line.
abbrev pub after_head : Option (List ℕ) → Note → List ℕ
after_head None note = note.words.items ++ 10 ∷ []
after_head (Some line) note = note.words.items ++ 10 ∷ marked_line line note.start note.width
