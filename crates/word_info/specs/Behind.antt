-- What stands behind the end record of Intel HEX or of S-records, and is not read. Source: mos65;
-- Intel and Motorola for the types of records.
use Rattle.std.specs.Prelude.{ℕ, ◌+◌, ◌==◌, ◌&&◌, ◌||◌, nat_le, Bool, false, if◌then◌else◌, List, [], ◌∷◌, slice_index}
use Rattle.image_reader.specs.declared.form.TextForm.{TextForm}
use Rattle.image_reader.specs.declared.form.TextForm.TheVariants.{Hex, SRecord}
use Rattle.model.specs.TextLines.{lines_of}

-- A line that begins with the mark of a record: `:` or `S`.
abbrev pub is_record : TextForm → List ℕ → Bool
is_record Hex line = slice_index line 0 == 58
is_record SRecord line = slice_index line 0 == 83

-- A line of a right text that is its end record: one of the type 01, or S7, S8 or S9.
abbrev pub is_end : TextForm → List ℕ → Bool
is_end Hex line = slice_index line 0 == 58 && slice_index line 7 == 48 && slice_index line 8 == 49
is_end SRecord line = slice_index line 0 == 83 && nat_le 55 (slice_index line 1)
    && nat_le (slice_index line 1) 57

-- 1 for a record behind an end record.
abbrev pub one_behind : TextForm → Bool → List ℕ → ℕ
one_behind form ended line = if ended && is_record form line then 1 else 0

-- How many records stand in some lines behind an end record, which may have come before them.
unfoldable pub behind_from : TextForm → Bool → List (List ℕ) → ℕ
behind_from form ended [] = 0
behind_from form ended (line ∷ lines)
    = one_behind form ended line + behind_from form (ended || is_end form line) lines

-- How many records of a text stand behind its first end record.
abbrev pub records_behind : TextForm → List ℕ → ℕ
records_behind form text = behind_from form false (lines_of text)
