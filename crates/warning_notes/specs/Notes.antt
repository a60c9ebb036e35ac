-- What is said of a warning, and which bytes of its line it means. Source: mos65.
use Rattle.std.specs.Prelude.{◌≡◌, ◌⊎◌, ℕ, ◌+◌, ◌-◌, ◌*◌, ◌%◌, nat_lt, ◌&&◌, max, Bool, true, false, List, [], ◌∷◌, ◌++◌, length, take, drop, slice_get, not, codes, if◌then◌else◌, Option, Some, None}
use Rattle.std.specs.Fmt.{decimal}
use Rattle.std.specs.List.{find, flat_map, prefix_len}
use Rattle.std.specs.Str.{str_eq_ignore_ascii_case}
use Rattle.line_parts.specs.Lexemes.{lexemes}
use Rattle.line_parts.specs.declared.token.Token.{Token}
use Rattle.model.specs.Text.{hex_address}
use Rattle.model.specs.Token.{is_blank, is_word_byte, tokens_of}
use Rattle.source_notes.specs.Lines.{without_blanks}
use Rattle.source_notes.specs.Operands.{after_label, is_symbol, operand_of, operand_place}
use Rattle.source_notes.specs.declared.note.Note.{Note}
use Rattle.warning_notes.specs.declared.wording.TheConstants.{AND_NOT_FROM, ANOTHER_NAME, CLOSED, CLOSED_WITH_X, CLOSED_WITH_Y, DIFFERS_IN_CASE, HAS_NO_BYTES, HAS_NO_VECTOR, IRQ_VECTOR, IS_AN_ADDRESS, IS_A_REGISTER, IS_NEVER_USED, IS_NOT_READ, LEADS_TO_DATA, LEADS_TO_RTS, MOVE_IT, NMI_VECTOR, ONLY_GROUPS, ON_LINE, OPENED, RESET_VECTOR, RUNS_ON, TAKES_HIGH_BYTE, TAKES_TWO_BYTES}
use Rattle.warnings.specs.declared.kinds.Vector.{Vector}
use Rattle.warnings.specs.declared.kinds.Vector.TheVariants.{Nmi, Reset, Irq}
use Rattle.warnings.specs.declared.kinds.WarningKind.{WarningKind}
use Rattle.warnings.specs.declared.kinds.WarningKind.TheVariants.{PlainNumber, UnusedName, LongForm, LetterCase, NoBytes, AfterEnd, NoVector, FallsOff, PointerWrap, RegisterName, SquareBrackets, VectorToData, HandlerReturns}

-- How many letters, digits and `_` stand after the blanks with which a line begins.
abbrev pub word_length : List ℕ → ℕ
word_length line = prefix_len is_word_byte (without_blanks line)

-- The word with which a line begins, after its blanks.
abbrev pub first_word : List ℕ → List ℕ
first_word line = take (word_length line) (without_blanks line)

-- Where it starts in the line, counted from 0, and how many bytes it has. One byte is meant where
-- there is no word.
abbrev pub word_place : List ℕ → ℕ × ℕ
word_place line = (prefix_len is_blank line, max (word_length line) 1)

-- A note means these bytes and has these words, and no right word.
pub record Says (place : ℕ × ℕ) (words : List ℕ) (note : Note) : Type 0 where
  pub start : note.start ≡ place.0
  pub width : note.width ≡ place.1
  pub words_are : note.words.items ≡ words
  pub no_right : note.right ≡ None

-- ---- operands

-- The tokens of a line; none of a line that is not made of tokens.
abbrev pub AreTokens : List ℕ → List Token → Type 0
AreTokens line tokens = (tokens_of line ≡ Some (lexemes tokens))
    ⊎ ((tokens_of line ≡ None) × (tokens ≡ []))

abbrev pub text_of : Option Token → List ℕ
text_of None = []
text_of (Some token) = token.text.now

-- The text of the last of some tokens.
abbrev pub last_text : List Token → List ℕ
last_text tokens = text_of (slice_get tokens (length tokens - 1))

-- The text of the first of some tokens that opens no bracket.
abbrev pub inner_text : List Token → List ℕ
inner_text tokens = text_of (find (λ token. not (is_symbol token 91)) tokens)

abbrev pub plain_words : List ℕ → List ℕ
plain_words number = number ++ IS_AN_ADDRESS.now ++ number

-- ---- brackets

-- The texts of tokens, one after another.
abbrev pub joined : List Token → List ℕ
joined tokens = flat_map (λ token. token.text.now) tokens

-- Whether a token closes a bracket.
abbrev pub is_closing : Option Token → Bool
is_closing None = false
is_closing (Some token) = is_symbol token 93

-- The last of some tokens.
abbrev pub last_of : List Token → Option Token
last_of tokens = slice_get tokens (length tokens - 1)

-- The address in the brackets of an operand: what stands between `[` and `]`, or between `[` and
-- `]`, `,` and an index.
abbrev pub address_in : List Token → List Token
address_in operand = take (length operand - (if is_closing (last_of operand) then 2 else 4))
    (drop 1 operand)

-- What closes a pointer: an index X stands in it, and Y behind it, also where no index is written.
-- The pointer of JMP has no index.
abbrev pub closing_of : List ℕ → Bool → List ℕ → List ℕ
closing_of mnemonic true last = if str_eq_ignore_ascii_case mnemonic (codes "JMP") then CLOSED.now
    else CLOSED_WITH_Y.now
closing_of mnemonic false index = if str_eq_ignore_ascii_case index (codes "X")
    then CLOSED_WITH_X.now else CLOSED_WITH_Y.now

-- The pointer that may be meant by an operand in brackets.
abbrev pub pointer_text : List ℕ → List Token → List ℕ
pointer_text mnemonic operand = OPENED.now ++ (joined (address_in operand)
    ++ closing_of mnemonic (is_closing (last_of operand)) (last_text operand))

-- The text of the first of some tokens.
abbrev pub first_text : List Token → List ℕ
first_text tokens = text_of (slice_get tokens 0)

-- What is said of an operand in brackets: how its instruction is written with a pointer.
abbrev pub bracket_words : List Token → List ℕ
bracket_words tokens = ONLY_GROUPS.now ++ (first_text (after_label tokens)
    ++ pointer_text (first_text (after_label tokens)) (operand_of tokens))

-- ---- letter case

-- A name of an earlier line that has the letters of a word, in capitals or not.
abbrev pub is_like : ℕ → List ℕ → List ℕ × ℕ → Bool
is_like number word name = nat_lt name.1 number && str_eq_ignore_ascii_case name.0 word

abbrev pub like_words : Option (List ℕ × ℕ) → List ℕ
like_words None = ANOTHER_NAME.now
like_words (Some name) = name.0 ++ ON_LINE.now ++ decimal name.1

-- A word, and the first name that it is like.
abbrev pub case_words : List (List ℕ × ℕ) → ℕ → List ℕ → List ℕ
case_words names number word = word ++ DIFFERS_IN_CASE.now
    ++ like_words (find (is_like number word) names)

-- ---- vectors

abbrev pub vector_name : Vector → List ℕ
vector_name Nmi = NMI_VECTOR.now
vector_name Reset = RESET_VECTOR.now
vector_name Irq = IRQ_VECTOR.now

-- A vector, and the line of data to which it leads.
abbrev pub data_words : Vector → ℕ → List ℕ
data_words vector line = vector_name vector ++ LEADS_TO_DATA.now ++ decimal line

-- A vector whose handler ends in RTS.
abbrev pub handler_words : Vector → List ℕ
handler_words vector = vector_name vector ++ LEADS_TO_RTS.now

-- ---- a pointer at the end of a page

-- An address behind `$`.
abbrev pub address_words : ℕ → List ℕ
address_words address = 36 ∷ hex_address (address % 65536)

-- Where profile N takes the high byte from, and where the next byte stands.
abbrev pub wrap_words : ℕ → List ℕ
wrap_words page = TAKES_HIGH_BYTE.now ++ (address_words (page * 256) ++ (AND_NOT_FROM.now
    ++ (address_words (page * 256 + 256) ++ MOVE_IT.now)))

-- ---- a warning

-- A note of a warning of this line, among names with their lines' numbers.
abbrev pub IsNote : List (List ℕ × ℕ) → WarningKind → ℕ → List ℕ → Note → Type 0
IsNote names PlainNumber number line note = (tokens : List Token) × AreTokens line tokens
    × Says (operand_place line tokens) (plain_words (inner_text (operand_of tokens))) note
IsNote names LongForm number line note = (tokens : List Token) × AreTokens line tokens
    × Says (operand_place line tokens) TAKES_TWO_BYTES.now note
IsNote names UnusedName number line note
    = Says (word_place line) (first_word line ++ IS_NEVER_USED.now) note
IsNote names LetterCase number line note
    = Says (word_place line) (case_words names number (first_word line)) note
IsNote names NoBytes number line note = Says (word_place line) HAS_NO_BYTES.now note
IsNote names AfterEnd number line note = Says (word_place line) IS_NOT_READ.now note
IsNote names NoVector number line note = Says (word_place line) HAS_NO_VECTOR.now note
IsNote names FallsOff number line note = Says (word_place line) RUNS_ON.now note
IsNote names (PointerWrap page) number line note = (tokens : List Token) × AreTokens line tokens
    × Says (operand_place line tokens) (wrap_words page) note
IsNote names RegisterName number line note
    = Says (word_place line) (first_word line ++ IS_A_REGISTER.now) note
IsNote names SquareBrackets number line note = (tokens : List Token) × AreTokens line tokens
    × Says (operand_place line tokens) (bracket_words tokens) note
IsNote names (VectorToData vector target) number line note
    = Says (word_place line) (data_words vector target) note
IsNote names (HandlerReturns vector) number line note
    = Says (word_place line) (handler_words vector) note
