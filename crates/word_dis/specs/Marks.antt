-- What is marked, and the part of an image that is written. Source: mos65.
use Rattle.std.specs.Prelude.{ℕ, nat_le, nat_lt, ◌&&◌, ◌||◌, Bool, false, is_some, if◌then◌else◌, List, [], ◌∷◌, length, Option, None}
use Rattle.model.specs.Image.{cell_at}
use Rattle.source_forms.specs.declared.mark.Mark.{Mark}
use Rattle.source_forms.specs.declared.mark.Mark.TheVariants.{Code, Data, Text, Address, Return}
use Rattle.source_forms.specs.Rows.{mark_at}
use Rattle.marks_files.specs.Marks.{Marks}
use Rattle.word_dis.specs.Asked.{SourceAsked}

abbrev pub lies_in : ℕ × ℕ → ℕ → Bool
lies_in range address = nat_le range.0 address && nat_le address range.1

-- Whether an address lies in one of some ranges.
abbrev pub lies_in_one : List (ℕ × ℕ) → ℕ → Bool
lies_in_one [] address = false
lies_in_one (range ∷ ranges) address = lies_in range address || lies_in_one ranges address

-- Text comes before numbers, these before words of RTS, these before words, and these before code.
-- With labels the vectors, from $FFFA on, are data.
abbrev pub mark_of : Bool → Marks → ℕ → Mark
mark_of labels said address = if lies_in_one said.letters address then Text
    else if lies_in_one said.numbers address then Data
    else if lies_in_one said.returns address then Return
    else if lies_in_one said.addresses address then Address
    else if labels && nat_le 65530 address then Data else Code

-- Ranges of instructions are code, whatever else is known.
abbrev pub said_mark : List (ℕ × ℕ) → List Mark → ℕ → Mark
said_mark instructions marks address = if lies_in_one instructions address then Code
    else mark_at marks address

-- There are labels where they are asked for, and where words or names are.
abbrev pub has_labels : SourceAsked → Bool
has_labels asked = asked.labels || is_some asked.symbols
    || nat_lt 0 (length asked.said.definitions) || nat_lt 0 (length asked.said.splits)
    || nat_lt 0 (length asked.said.addresses)
    || nat_lt 0 (length asked.said.returns)

-- A cell between two addresses, and nothing elsewhere.
abbrev pub cell_between : List (Option ℕ) → ℕ → ℕ → ℕ → Option ℕ
cell_between cells first last address = if nat_le first address && nat_le address last
    then cell_at cells address else None
