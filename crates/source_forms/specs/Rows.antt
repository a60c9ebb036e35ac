-- What the bytes of an image are written as, and lines of numbers, of letters and of `*=`. Source:
-- mos65.
use Rattle.std.specs.Prelude.{ℕ, zero, suc, ◌+◌, Bool, true, false, if◌then◌else◌, List, [], ◌∷◌, ◌++◌, codes, Option, Some, None, slice_index_or}
use Rattle.model.specs.Image.{cell_at}
use Rattle.model.specs.Token.{is_string_byte}
use Rattle.model.specs.InstructionText.{byte_text, word_text}
use Rattle.source_forms.specs.declared.mark.Mark.{Mark}
use Rattle.source_forms.specs.declared.mark.Mark.TheVariants.{Code, Data, Text, Address, Return}

-- ---- what a byte is written as

-- A byte that is marked as text is written so where a string may have it, and as a number
-- elsewhere.
abbrev pub kind_of : Mark → ℕ → Mark
kind_of Code b = Code
kind_of Data b = Data
kind_of Text b = if is_string_byte b then Text else Data
kind_of Address b = Address
kind_of Return b = Return

-- The mark of an address: code where none is given.
abbrev pub mark_at : List Mark → ℕ → Mark
mark_at marks address = slice_index_or marks address Code

abbrev pub is_kind : Mark → Mark → Bool
is_kind Code Code = true
is_kind Data Data = true
is_kind Text Text = true
is_kind Address Address = true
is_kind Return Return = true
is_kind kind other = false

-- A byte, if there is one and it passes, before others.
abbrev pub byte_before : Option ℕ → (ℕ → Bool) → List ℕ → List ℕ
byte_before None passes rest = []
byte_before (Some b) passes rest = if passes b then b ∷ rest else []

-- The bytes of one kind from an address on, up to the first gap, at most so many.
unfoldable pub stretch : List (Option ℕ) → List Mark → Mark → ℕ → ℕ → List ℕ
stretch image marks kind zero address = []
stretch image marks kind (suc n) address =
    byte_before (cell_at image address) (λ b. is_kind kind (kind_of (mark_at marks address) b))
    (stretch image marks kind n (address + 1))

-- ---- data

-- Further bytes of a list, each after a comma.
abbrev pub more_bytes : List ℕ → List ℕ
more_bytes [] = []
more_bytes (b ∷ bytes) = 44 ∷ byte_text b ++ more_bytes bytes

abbrev pub bytes_text : List ℕ → List ℕ
bytes_text [] = []
bytes_text (b ∷ bytes) = byte_text b ++ more_bytes bytes

-- `.BYTE` with numbers and a note behind them, and with a string.
abbrev pub data_text : List ℕ → List ℕ → List ℕ
data_text bytes note = codes ".BYTE " ++ (bytes_text bytes ++ note)

abbrev pub string_text : List ℕ → List ℕ
string_text bytes = codes ".BYTE " ++ 34 ∷ bytes ++ 34 ∷ []

-- ---- lines

-- `*=` and an address.
abbrev pub origin_line : ℕ → List ℕ
origin_line address = codes "*=" ++ word_text address

-- `*=` where no row ends at the address.
abbrev pub opened : Bool → ℕ → List (List ℕ)
opened true address = []
opened false address = origin_line address ∷ []

abbrev pub by_cell : {A : Type 0} → Option ℕ → A → (ℕ → A) → A
by_cell None gap row = gap
by_cell (Some b) gap row = row b

-- A line with its end.
abbrev pub ended : List ℕ → List ℕ
ended line = line ++ 10 ∷ []
