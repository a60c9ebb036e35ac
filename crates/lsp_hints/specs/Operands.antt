-- Which form of an instruction is meant by what is written of its operand. Source: mos65.
use Rattle.std.specs.Prelude.{ℕ, ◌==◌, ◌&&◌, ◌||◌, not, nat_lt, if◌then◌else◌, Bool, false, List, drop, is_some, length, position, take, Option, Some, None}
use Rattle.std.specs.List.{count_by, prefix_len}
use Rattle.lsp_hints.specs.Operations.{begins_with, code_size, start_of, word_size}
use Rattle.model.specs.OpcodeTable.{opcode_of}
use Rattle.model.specs.Token.{is_word_byte}
use Rattle.model.specs.declared.instruction.Mnemonic.{Mnemonic}
use Rattle.model.specs.declared.instruction.Mode.{Mode}
use Rattle.model.specs.declared.instruction.Mode.TheVariants.{Imp, Acc, Imm, Zp, ZpX, ZpY, Abs, AbsX, AbsY, IndX, IndY, Ind, Rel, IndZ}
use Rattle.model.specs.declared.instruction.Profile.{Profile}
use Rattle.opcode_facts.specs.Forms.{all_modes}
use Rattle.source_notes.specs.Lines.{without_blanks}

-- What stands in a line between the word of its operation and its comment.
abbrev pub operand_of : List ℕ → List ℕ
operand_of line = without_blanks (drop (word_size (drop (start_of line) line))
    (drop (start_of line) (take (code_size line) line)))

-- ---- what is written

abbrev pub is_no_comma : ℕ → Bool
is_no_comma b = not (b == 44)

abbrev pub size_before_comma : List ℕ → ℕ
size_before_comma text = prefix_len is_no_comma text

abbrev pub has_comma : List ℕ → Bool
has_comma text = begins_with 44 (drop (size_before_comma text) text)

abbrev pub is_no_end : ℕ → Bool
is_no_end b = not (b == 41)

abbrev pub size_before_end : List ℕ → ℕ
size_before_end text = prefix_len is_no_end text

-- What stands before the first `)`.
abbrev pub before_end : List ℕ → List ℕ
before_end text = take (size_before_end text) text

abbrev pub has_end : List ℕ → Bool
has_end text = begins_with 41 (drop (size_before_end text) text)

abbrev pub is_empty : List ℕ → Bool
is_empty bytes = length bytes == 0

abbrev pub is_letter : ℕ → ℕ → List ℕ → Bool
is_letter capital small text = begins_with capital text || begins_with small text

-- An `A` alone.
abbrev pub is_accumulator : List ℕ → Bool
is_accumulator text = is_letter 65 97 text && is_empty (without_blanks (drop 1 text))

-- A `!`, or more than two digits behind a `$`.
abbrev pub is_wide : List ℕ → Bool
is_wide text = begins_with 33 text
    || (begins_with 36 text && nat_lt 2 (prefix_len is_word_byte (drop 1 text)))

-- Neither `#` nor `(` stands in front.
abbrev pub is_plain : List ℕ → Bool
is_plain text = not (begins_with 35 text) && not (begins_with 40 text)

abbrev pub behind_comma : List ℕ → List ℕ
behind_comma text = without_blanks (drop 1 (drop (size_before_comma text) text))

-- A register behind a comma, or none yet.
abbrev pub is_indexed : ℕ → ℕ → List ℕ → Bool
is_indexed capital small text = if is_plain text && has_comma text
    then is_letter capital small (behind_comma text) || is_empty (behind_comma text)
    else false

-- ---- which form

-- An operand that is written so far may become one of a mode.
abbrev pub fits : List ℕ → Mode → Bool
fits text Imp = is_empty text
fits text Acc = is_accumulator text
fits text Imm = begins_with 35 text
fits text Zp = is_plain text && not (has_comma text) && not (is_wide text)
fits text Abs = is_plain text && not (has_comma text)
fits text Rel = is_plain text && not (has_comma text)
fits text ZpX = is_indexed 88 120 text && not (is_wide text)
fits text AbsX = is_indexed 88 120 text
fits text ZpY = is_indexed 89 121 text && not (is_wide text)
fits text AbsY = is_indexed 89 121 text
fits text Ind = begins_with 40 text && not (has_comma text)
fits text IndZ = begins_with 40 text && not (has_comma text)
fits text IndX = begins_with 40 text
    && (has_comma (before_end text) || not (has_end text))
fits text IndY = begins_with 40 text && not (has_comma (before_end text))

abbrev pub has_form : Profile → Mnemonic → Mode → Bool
has_form profile m mode = is_some (opcode_of profile m mode)

abbrev pub is_meant : Profile → Mnemonic → List ℕ → Mode → Bool
is_meant profile m text mode = has_form profile m mode && fits text mode

-- How many forms a mnemonic has in some modes.
abbrev pub forms_in : Profile → Mnemonic → List Mode → ℕ
forms_in profile m modes = count_by (has_form profile m) modes

abbrev pub form_at : Profile → Mnemonic → Option ℕ → ℕ
form_at profile m None = 0
form_at profile m (Some place) = forms_in profile m (take place all_modes)

-- The number of the first form of a mnemonic that an operand fits, counted from 0; 0 if it fits none.
abbrev pub meant_form : Profile → Mnemonic → List ℕ → ℕ
meant_form profile m text = form_at profile m (position (is_meant profile m text) all_modes)
