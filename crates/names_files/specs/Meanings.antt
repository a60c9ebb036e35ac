-- What becomes of a line of a file of names. Source: mos65.
use Rattle.std.specs.Prelude.{ℕ, ◌+◌, ◌==◌, ◌&&◌, ◌||◌, nat_lt, Bool, true, false, if◌then◌else◌, ℤ, pos, List, ◌++◌, codes, length, drop, take, position, Option, Some, None, Result, Ok, Err}
use Rattle.std.specs.List.{list_all}
use Rattle.std.specs.Option.{unwrap_or}
use Rattle.std.specs.Str.{byte, bytes_eq}
use Rattle.model.specs.Token.{is_blank}
use Rattle.lexer.specs.Front.{first_field, without_blanks}
use Rattle.model.specs.Expression.{Term}
use Rattle.model.specs.Names.{Definitions, number_in}
use Rattle.model.specs.SourceLine.{Line, Statement, definition, labelled, nothing, origin, bytes, words, words_high_first, reserve, finish, instruction, read_line}
use Rattle.model.specs.Value.{eval_of}
use Rattle.model.specs.declared.expression.ExprFault.{ExprFault}
use Rattle.model.specs.declared.instruction.Profile.{Profile}
use Rattle.model.specs.declared.source_fault.AsmFaultKind.{AsmFaultKind}
use Rattle.names_files.specs.ImageNames.{is_image_name}
use Rattle.names_files.specs.Labels.{Label, begins, debug_label, definition_text, label_of, row_label}
use Rattle.names_files.specs.declared.form.Form.{Form}
use Rattle.names_files.specs.declared.form.Form.TheVariants as form

-- It says nothing of names; it stands in a source alone; it gives a name its number; it gives a name
-- that cannot stand in a source its number; it has a name that is left out; or it is in no form that
-- is known.
pub data Meaning : Type 0 where
  other : Meaning
  stands : Meaning
  named : List ℕ → ℤ → Meaning
  kept : List ℕ → ℤ → Meaning
  left_out : List ℕ → Meaning
  unknown : Meaning

-- A name is left out if its value has no number.
abbrev pub numbered : List ℕ → Result ℤ ExprFault → Meaning
numbered name (Ok number) = named name number
numbered name (Err fault) = left_out name

-- The number of a value, by the names that were given before.
abbrev pub value_in : Definitions → Term → Result ℤ ExprFault
value_in names value = eval_of (number_in names) (pos 0) value

-- ---- names that cannot stand in a source

-- The number that a line gives a name, by the names that were given before.
abbrev pub number_of_value : Result ℤ ExprFault → Option ℤ
number_of_value (Ok number) = Some number
number_of_value (Err fault) = None

abbrev pub number_given : Definitions → Result Line AsmFaultKind → Option ℤ
number_given names (Ok (definition name value)) = number_of_value (value_in names value)
number_given names (Ok (labelled label statement)) = None
number_given names (Err fault) = None

abbrev pub number_by : Profile → Definitions → List ℕ → Option ℤ
number_by profile names line = number_given names (read_line profile line)

-- The number of a label is what its line gives another name.
unfoldable pub label_number : Profile → Definitions → Label → Option ℤ
label_number profile names label
    = number_by profile names (definition_text (record label { name = codes "n" }))

-- So is the number of a line that has a `=`.
abbrev pub number_behind : Profile → Definitions → List ℕ → Option ℕ → Option ℤ
number_behind profile names line None = None
number_behind profile names line (Some at) = number_by profile names (codes "n" ++ drop at line)

unfoldable pub equation_number : Profile → Definitions → List ℕ → Option ℤ
equation_number profile names line
    = number_behind profile names line (position (λ b. b == byte "=") line)

-- A name that is left out of the source is kept if an image may have it, and it has a number.
abbrev pub kept_if : List ℕ → Option ℤ → Meaning
kept_if name None = left_out name
kept_if name (Some number) = if is_image_name name then kept name number else left_out name

abbrev pub or_kept : Option ℤ → Meaning → Meaning
or_kept number other = other
or_kept number stands = stands
or_kept number (named name value) = named name value
or_kept number (kept name value) = kept name value
or_kept number (left_out name) = kept_if name number
or_kept number unknown = unknown

-- ---- a label

-- A name is left out too if its line is not read as its definition.
abbrev pub defined : Definitions → List ℕ → Result Line AsmFaultKind → Meaning
defined names name (Ok (definition found value)) = if bytes_eq found name
    then numbered name (value_in names value) else left_out name
defined names name (Ok (labelled label statement)) = left_out name
defined names name (Err fault) = left_out name

abbrev pub label_meaning : Profile → Definitions → Label → Meaning
label_meaning profile names label = or_kept (label_number profile names label)
    (defined names label.name (read_line profile (definition_text label)))

-- ---- a line of a source

abbrev pub is_nothing : Statement → Bool
is_nothing nothing = true
is_nothing (origin term) = false
is_nothing (bytes items) = false
is_nothing (words terms) = false
is_nothing (words_high_first terms) = false
is_nothing (reserve term) = false
is_nothing finish = false
is_nothing (instruction mnemonic operand) = false

abbrev pub labelled_meaning : Option (List ℕ) → Statement → Meaning
labelled_meaning None statement = if is_nothing statement then other else stands
labelled_meaning (Some name) statement = stands

abbrev pub line_meaning : Definitions → Line → Meaning
line_meaning names (labelled label statement) = labelled_meaning label statement
line_meaning names (definition name value) = numbered name (value_in names value)

-- ---- a line that is none of a source

-- A word ends at a blank, or at the `:` of `NAME := VALUE`, as 64tass writes a variable.
abbrev pub is_word_end : ℕ → Bool
is_word_end b = is_blank b || b == byte ":"

-- How many bytes come before the end of a word.
abbrev pub name_length : List ℕ → ℕ
name_length text = unwrap_or (position is_word_end text) (length text)

-- A text is a word, and nothing else but blanks and `:` behind it.
abbrev pub is_one_word : List ℕ → Bool
is_one_word text = nat_lt 0 (name_length text)
    && list_all is_word_end (drop (name_length text) text)

-- The word that a text is.
abbrev pub word_in : List ℕ → Option (List ℕ)
word_in text = if is_one_word text then Some (take (name_length text) text) else None

abbrev pub word_before : List ℕ → Option ℕ → Option (List ℕ)
word_before line None = None
word_before line (Some at) = if list_all is_blank (drop (at + 1) line) then None
    else word_in (without_blanks (take at line))

-- The word in front of the first `=`, if nothing else stands there, and a value stands behind it.
abbrev pub equation_word : List ℕ → Option (List ℕ)
equation_word line = word_before line (position (λ b. b == byte "=") line)

abbrev pub faulty_meaning : Option (List ℕ) → Meaning
faulty_meaning None = unknown
faulty_meaning (Some name) = left_out name

abbrev pub read_meaning : Profile → Definitions → List ℕ → Result Line AsmFaultKind → Meaning
read_meaning profile names line (Ok read) = line_meaning names read
read_meaning profile names line (Err fault)
    = or_kept (equation_number profile names line) (faulty_meaning (equation_word line))

-- ---- a line of a file in one of its forms

-- A line of DASM's table that begins with `---` is its head or its end.
abbrev pub is_no_row : List ℕ → Bool
is_no_row line = begins line (codes "---") || length (first_field line) == 0

-- Lines `al` stand among lines of a source.
unfoldable pub label_in : Form → List ℕ → Option Label
label_in form.Plain line = label_of line
label_in form.Debug line = debug_label line
label_in form.Table line = if is_no_row line then None else row_label line

-- A line that is no label. Other records of a debug file say nothing of names.
unfoldable pub unlabelled : Form → Profile → Definitions → List ℕ → Meaning
unlabelled form.Plain profile names line
    = read_meaning profile names line (read_line profile line)
unlabelled form.Debug profile names line = other
unlabelled form.Table profile names line
    = if is_no_row line then other else left_out (first_field line)
