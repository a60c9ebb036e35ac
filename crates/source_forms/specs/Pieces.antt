-- What each line of a source with labels stands for. Source: mos65; the instructions' forms are
-- those of a listing.
use Rattle.std.specs.Prelude.{ℕ, zero, suc, ◌+◌, ◌-◌, ◌*◌, Bool, false, ◌||◌, ◌&&◌, ◌==◌, nat_lt, nat_le, if◌then◌else◌, List, [], ◌∷◌, ◌++◌, length, take, codes, Option, Some, None, slice_index, slice_index_or}
use Rattle.model.specs.declared.instruction.Profile.{Profile}
use Rattle.model.specs.declared.instruction.Mnemonic.{Mnemonic}
use Rattle.model.specs.declared.instruction.Mode.{Mode}
use Rattle.model.specs.declared.instruction.Mode.TheVariants.{Imp, Acc, Imm, Zp, ZpX, ZpY, Abs, AbsX, AbsY, IndX, IndY, Ind, Rel, IndZ}
use Rattle.model.specs.declared.instruction.Row.{Row}
use Rattle.model.specs.OpcodeTable.{row_at}
use Rattle.model.specs.Mnemonics.{mnemonic_text}
use Rattle.model.specs.Text.{hex_address}
use Rattle.model.specs.InstructionText.{has_row, word_text, target_of, operand_text}
use Rattle.source_forms.specs.declared.mark.Mark.{Mark}
use Rattle.source_forms.specs.declared.mark.Mark.TheVariants.{Code, Data, Text, Address, Return}
use Rattle.source_forms.specs.declared.undocumented.Undocumented.{Undocumented}
use Rattle.source_forms.specs.Undocumented.{undocumented_at, instruction_note}
use Rattle.source_forms.specs.Runs.{run_note}
use Rattle.source_forms.specs.Rows.{kind_of, mark_at, stretch, data_text, string_text}

-- What stands in a line: an instruction with the two bytes after its opcode, the word of an address,
-- that of the address before one to which RTS goes, the bytes of an undocumented instruction or
-- numbers with a note behind them, or letters.
pub data Piece : Type 0 where
  instruction : Row → ℕ → ℕ → Piece
  word : ℕ → Piece
  return_word : ℕ → Piece
  undocumented : List ℕ → List ℕ → Piece
  numbers : List ℕ → List ℕ → Piece
  letters : List ℕ → Piece

-- ---- the piece at an address

-- The vectors' addresses: $FFFA, $FFFC, $FFFE. Source: MCS6500 manual, chapter 9.
abbrev pub is_vector : ℕ → Bool
is_vector address = (address == 65530) || (address == 65532) || (address == 65534)

-- Whether an address is referred to.
abbrev pub is_flagged : List Bool → ℕ → Bool
is_flagged flags address = slice_index_or flags address false

-- A line of data ends before a vector, and before an address that is referred to.
abbrev pub begins_line : List Bool → ℕ → Bool
begins_line flags address = is_flagged flags address || is_vector address

-- How many bytes of data a line may have from an address on, at most so many.
unfoldable pub room : List Bool → ℕ → ℕ → ℕ
room flags zero address = 0
room flags (suc n) address = suc (if begins_line flags (address + 1) then 0
    else room flags n (address + 1))

-- An undocumented instruction with its note, if its bytes are there; otherwise its first byte.
abbrev pub odd_piece : List ℕ → Option Undocumented → Piece
odd_piece bytes None = numbers (slice_index bytes 0 ∷ []) []
odd_piece bytes (Some u) = if nat_le u.len (length bytes)
    then undocumented (take u.len bytes) (instruction_note u (slice_index bytes 1) (slice_index bytes 2))
    else numbers (slice_index bytes 0 ∷ []) []

-- An instruction, if the table has one and its bytes are there; otherwise its first byte.
abbrev pub code_piece : Profile → ℕ → List ℕ → Option Row → Piece
code_piece profile address bytes None =
    odd_piece bytes (undocumented_at profile (slice_index bytes 0))
code_piece profile address bytes (Some row) =
    if nat_le row.len (length bytes) && nat_le (address + row.len) 65536
    then instruction row (slice_index bytes 1) (slice_index bytes 2)
    else numbers (slice_index bytes 0 ∷ []) []

-- The word that two bytes are, the low one first.
abbrev pub word_of : List ℕ → ℕ
word_of bytes = slice_index bytes 0 + 256 * slice_index bytes 1

-- A vector where both its bytes are data; otherwise up to 8 numbers and a note.
abbrev pub data_piece : ℕ → List ℕ → List ℕ → List ℕ → Piece
data_piece address two bytes note = if is_vector address && (length two == 2)
    then word (word_of two) else numbers bytes note

-- An address where both its bytes are there; otherwise a number.
abbrev pub address_piece : List ℕ → Piece
address_piece bytes = if length bytes == 2 then word (word_of bytes) else numbers bytes []

-- RTS goes to the address after the word that it pulls. After $FFFF there is none.
abbrev pub return_of : ℕ → Piece
return_of w = if w == 65535 then word w else return_word (w + 1)

-- The address before one to which RTS goes, where both its bytes are there; otherwise a number.
abbrev pub return_piece : List ℕ → Piece
return_piece bytes = if length bytes == 2 then return_of (word_of bytes) else numbers bytes []

abbrev pub piece_by : Mark → Profile → List (Option ℕ) → List Mark → List Bool → ℕ → Piece
piece_by Code profile image marks flags address =
    let bytes = stretch image marks Code 3 address in
    code_piece profile address bytes (row_at profile (slice_index bytes 0))
piece_by Data profile image marks flags address =
    let bytes = stretch image marks Data (room flags 8 address) address in
    data_piece address (stretch image marks Data 2 address) bytes
    (run_note image marks address bytes)
piece_by Text profile image marks flags address =
    letters (stretch image marks Text (room flags 32 address) address)
piece_by Address profile image marks flags address =
    address_piece (stretch image marks Address 2 address)
piece_by Return profile image marks flags address =
    return_piece (stretch image marks Return 2 address)

-- The piece that begins at an address, where there is a byte.
unfoldable pub piece_at : Profile → List (Option ℕ) → List Mark → List Bool → ℕ → ℕ → Piece
piece_at profile image marks flags address b
    = piece_by (kind_of (mark_at marks address) b) profile image marks flags address

-- ---- what is said of a piece

-- How many bytes it has.
unfoldable pub len_of : Piece → ℕ
len_of (instruction row b c) = row.len
len_of (word w) = 2
len_of (return_word w) = 2
len_of (undocumented bytes note) = length bytes
len_of (numbers bytes note) = length bytes
len_of (letters bytes) = length bytes

-- How many addresses its label stands for: all of an instruction or a word, or one datum.
unfoldable pub reach_of : Piece → ℕ
reach_of (instruction row b c) = row.len
reach_of (word w) = 2
reach_of (return_word w) = 2
reach_of (undocumented bytes note) = length bytes
reach_of (numbers bytes note) = 1
reach_of (letters bytes) = 1

-- The address that an operand refers to: by three bytes, indirectly, or as a branch's target. An
-- operand of one byte refers to none.
abbrev pub operand_refers : ℕ → Mode → ℕ → ℕ → Option ℕ
operand_refers address Imp b c = None
operand_refers address Acc b c = None
operand_refers address Imm b c = None
operand_refers address Zp b c = None
operand_refers address ZpX b c = None
operand_refers address ZpY b c = None
operand_refers address Abs b c = Some (b + 256 * c)
operand_refers address AbsX b c = Some (b + 256 * c)
operand_refers address AbsY b c = Some (b + 256 * c)
operand_refers address IndX b c = None
operand_refers address IndY b c = None
operand_refers address Ind b c = Some (b + 256 * c)
operand_refers address Rel b c = Some (target_of address b)
operand_refers address IndZ b c = None

-- The address that a piece at an address refers to.
unfoldable pub refers : ℕ → Piece → Option ℕ
refers address (instruction row b c) = operand_refers address row.mode b c
refers address (word w) = Some w
refers address (return_word w) = Some w
refers address (undocumented bytes note) = None
refers address (numbers bytes note) = None
refers address (letters bytes) = None

-- ---- its text

-- The label of an address: `L_` and four hex digits.
abbrev pub label_text : ℕ → List ℕ
label_text address = 76 ∷ 95 ∷ hex_address address

-- How far the label at an address reaches, by a table; 0 where there is none.
abbrev pub reach_at : List ℕ → ℕ → ℕ
reach_at table address = slice_index table address

-- An address by the label that reaches it, and as a number where none does.
unfoldable pub place_text : List ℕ → ℕ → List ℕ
place_text table w =
    if nat_lt 0 (reach_at table w) then label_text w
    else if nat_le 1 w && nat_lt 1 (reach_at table (w - 1)) then label_text (w - 1) ++ codes "+1"
    else if nat_le 2 w && nat_lt 2 (reach_at table (w - 2)) then label_text (w - 2) ++ codes "+2"
    else word_text w

-- What stands between a mnemonic and an address: `!` where the address is below $0100 and the
-- mnemonic has the zero page mode with the same index.
abbrev pub direct_front : Profile → Mnemonic → Mode → ℕ → List ℕ
direct_front profile m short w = if nat_lt w 256 && has_row profile m short then codes " !"
    else codes " "

abbrev pub direct_text : Profile → List ℕ → Mnemonic → Mode → ℕ → List ℕ → List ℕ
direct_text profile table m short w suffix
    = mnemonic_text m ++ (direct_front profile m short w ++ (place_text table w ++ suffix))

-- An instruction at an address, by its second byte and its third.
abbrev pub labelled_text : Profile → List ℕ → Mnemonic → ℕ → Mode → ℕ → ℕ → List ℕ
labelled_text profile table m address Imp b c = mnemonic_text m ++ operand_text profile m Imp address b c
labelled_text profile table m address Acc b c = mnemonic_text m ++ operand_text profile m Acc address b c
labelled_text profile table m address Imm b c = mnemonic_text m ++ operand_text profile m Imm address b c
labelled_text profile table m address Zp b c = mnemonic_text m ++ operand_text profile m Zp address b c
labelled_text profile table m address ZpX b c = mnemonic_text m ++ operand_text profile m ZpX address b c
labelled_text profile table m address ZpY b c = mnemonic_text m ++ operand_text profile m ZpY address b c
labelled_text profile table m address Abs b c = direct_text profile table m Zp (b + 256 * c) []
labelled_text profile table m address AbsX b c = direct_text profile table m ZpX (b + 256 * c) (codes ",X")
labelled_text profile table m address AbsY b c = direct_text profile table m ZpY (b + 256 * c) (codes ",Y")
labelled_text profile table m address IndX b c = mnemonic_text m ++ operand_text profile m IndX address b c
labelled_text profile table m address IndY b c = mnemonic_text m ++ operand_text profile m IndY address b c
labelled_text profile table m address Ind b c
    = mnemonic_text m ++ (codes " (" ++ (place_text table (b + 256 * c) ++ codes ")"))
labelled_text profile table m address Rel b c
    = mnemonic_text m ++ (codes " " ++ place_text table (target_of address b))
labelled_text profile table m address IndZ b c = mnemonic_text m ++ operand_text profile m IndZ address b c

-- The line of a piece at an address.
unfoldable pub text_of : Profile → List ℕ → ℕ → Piece → List ℕ
text_of profile table address (instruction row b c)
    = labelled_text profile table row.mnemonic address row.mode b c
text_of profile table address (word w) = codes ".WORD " ++ place_text table w
text_of profile table address (return_word w)
    = codes ".WORD " ++ (place_text table w ++ codes "-1")
text_of profile table address (undocumented bytes note) = data_text bytes note
text_of profile table address (numbers bytes note) = data_text bytes note
text_of profile table address (letters bytes) = string_text bytes
