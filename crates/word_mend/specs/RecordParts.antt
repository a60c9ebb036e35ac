-- The parts of a record by which the code finds its checksum. Source: mos65.
use Rattle.std.specs.Prelude.{ℕ, ◌+◌, ◌%◌, ◌==◌, ◌&&◌, Bool, false, is_some, List, [], ◌∷◌, length}
use Rattle.std.specs.List.{list_all}
use Rattle.image_reader.specs.SRecords.{kind_of}
use Rattle.image_reader.specs.declared.form.TextForm.{TextForm}
use Rattle.image_reader.specs.declared.form.TextForm.TheVariants.{Hex, SRecord}
use Rattle.model.specs.Digits.{is_hex_byte}

-- How many bytes of a record its first one does not count.
abbrev pub extra_of : TextForm → ℕ
extra_of Hex = 5
extra_of SRecord = 1

-- Pairs of hex digits.
abbrev pub are_pairs : List ℕ → Bool
are_pairs digits = (length digits % 2 == 0) && list_all is_hex_byte digits

-- As many bytes as the first one says, and some that it does not count.
abbrev pub is_whole : ℕ → List ℕ → Bool
is_whole extra [] = false
is_whole extra (count ∷ bytes) = length (count ∷ bytes) == extra + count

-- There are S-records of a type.
abbrev pub is_type : ℕ → Bool
is_type digit = is_some (kind_of digit)
