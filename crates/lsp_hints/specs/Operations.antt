-- The operation that is written in a line, which need not be whole. Source: mos65.
use Rattle.std.specs.Prelude.{ℕ, suc, ◌+◌, ◌-◌, ◌==◌, ◌&&◌, not, nat_le, nat_lt, Bool, false, if◌then◌else◌, List, [], ◌∷◌, codes, drop, take, Option, Some, None}
use Rattle.std.specs.List.{prefix_len}
use Rattle.std.specs.Str.{str_eq_ignore_ascii_case}
use Rattle.lsp_hints.specs.declared.operation.Operation.{Operation}
use Rattle.lsp_hints.specs.declared.operation.Operation.TheVariants.{Instruction, Bytes, Words, WordsHighFirst, Reserve, Finish, Origin, Definition}
use Rattle.lsp_answers.specs.declared.completing.Spot.{Spot}
use Rattle.lsp_answers.specs.declared.completing.Spot.TheVariants.{Operation as InOperation, Operand, Comment}
use Rattle.lsp_messages.specs.Columns.{column_of}
use Rattle.model.specs.Mnemonics.{mnemonic_named}
use Rattle.model.specs.Token.{is_blank, is_word_byte}
use Rattle.model.specs.declared.instruction.Mnemonic.{Mnemonic}
use Rattle.model.specs.declared.instruction.Profile.{Profile}
use Rattle.source_notes.specs.Lines.{without_blanks}

abbrev pub begins_with : ℕ → List ℕ → Bool
begins_with byte [] = false
begins_with byte (b ∷ bytes) = b == byte

-- ---- where the operation starts

abbrev pub blanks_after : List ℕ → ℕ → ℕ
blanks_after line place = place + prefix_len is_blank (drop place line)

abbrev pub word_after : List ℕ → ℕ → ℕ
word_after line place = place + prefix_len is_word_byte (drop place line)

abbrev pub colon_of : List ℕ → ℕ
colon_of line = blanks_after line (word_after line (blanks_after line 0))

-- Behind the `:` of a label; 0 without one.
abbrev pub label_end : List ℕ → ℕ
label_end line
    = if begins_with 58 (drop (colon_of line) line) then colon_of line + 1 else 0

abbrev pub start_of : List ℕ → ℕ
start_of line = blanks_after line (label_end line)

-- The word of an operation: letters, digits and `_`, also behind a `.`, or a `*`.
abbrev pub word_size : List ℕ → ℕ
word_size bytes = if begins_with 42 bytes then 1
    else if begins_with 46 bytes then word_after bytes 1 else word_after bytes 0

-- ---- which it is

abbrev pub directive_of : List ℕ → Option Operation
directive_of name =
    if str_eq_ignore_ascii_case name (codes ".BYTE") then Some Bytes
    else if str_eq_ignore_ascii_case name (codes ".WORD") then Some Words
    else if str_eq_ignore_ascii_case name (codes ".DBYTE") then Some WordsHighFirst
    else if str_eq_ignore_ascii_case name (codes ".RES") then Some Reserve
    else if str_eq_ignore_ascii_case name (codes ".END") then Some Finish
    else None

abbrev pub operation_by : Option Mnemonic → List ℕ → Option Operation
operation_by (Some m) word = Some (Instruction m)
operation_by None word = directive_of word

-- Where `=` stands behind a word, a name is defined, or the address is set.
abbrev pub operation_of : Profile → List ℕ → List ℕ → Option Operation
operation_of profile word behind = if begins_with 61 (without_blanks behind)
    then (if begins_with 42 word then Some Origin else Some Definition)
    else operation_by (mnemonic_named profile word) word

abbrev pub is_no_quote : ℕ → Bool
is_no_quote b = not (b == 34)

-- How many bytes stand before the first `"`.
abbrev pub size_before_quote : List ℕ → ℕ
size_before_quote bytes = prefix_len is_no_quote bytes

-- How many bytes of a string stand behind its first `"`, its last one too; none if it does not end.
abbrev pub string_rest : List ℕ → ℕ
string_rest bytes
    = if begins_with 34 (drop (size_before_quote bytes) bytes) then size_before_quote bytes + 1
    else 0

-- A byte between two `'`.
abbrev pub is_character : List ℕ → Bool
is_character bytes = begins_with 39 bytes && begins_with 39 (drop 2 bytes)

-- How many bytes of a character or a string at the front stand behind its first one.
abbrev pub quoted_rest : List ℕ → ℕ
quoted_rest bytes = if is_character bytes then 2
    else if begins_with 34 bytes then string_rest (drop 1 bytes) else 0

-- How many bytes behind the first of some bytes are still quoted, where so many of these are.
abbrev pub covered_then : ℕ → List ℕ → ℕ
covered_then covered bytes = if covered == 0 then quoted_rest bytes else covered - 1

-- A `;` outside a character or a string begins a comment.
abbrev pub begins_comment : ℕ → ℕ → Bool
begins_comment covered b = (covered == 0) && (b == 59)

-- How many bytes stand before the comment of a line, of which so many are quoted.
unfoldable pub code_from : ℕ → List ℕ → ℕ
code_from covered [] = 0
code_from covered (b ∷ bytes) = if begins_comment covered b then 0
    else suc (code_from (covered_then covered (b ∷ bytes)) bytes)

abbrev pub code_size : List ℕ → ℕ
code_size line = code_from 0 line

-- The operation of a line where a column is behind its word and before its comment.
abbrev pub operation_at : Profile → List ℕ → ℕ → Option Operation
operation_at profile line column =
    let rest = drop (start_of line) line in
    let size = word_size rest in
    if nat_le (start_of line + size) column && nat_le column (code_size line)
    then operation_of profile (take size rest) (drop size rest) else None

-- ---- where a place of a line is

-- Up to the end of the word of its operation, behind that, or behind the `;` of its comment.
abbrev pub spot_by : List ℕ → ℕ → Spot
spot_by line column = if nat_lt (code_size line) column then Comment
    else if nat_le column (start_of line + word_size (drop (start_of line) line)) then InOperation
    else Operand

abbrev pub spot_at : List ℕ → ℕ → Spot
spot_at line character = spot_by line (column_of character line)
