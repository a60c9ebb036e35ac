-- Which bytes of its line a fault means, and which word may be right there. Source: mos65.
use Rattle.std.specs.Prelude.{◌≡◌, ◌⊎◌, ⊤, ℕ, ◌+◌, ◌-◌, nat_le, nat_lt, ◌&&◌, ◌||◌, not, Bool, true, false, if◌then◌else◌, List, [], ◌∷◌, ◌++◌, length, drop, codes, slice_get, map, Option, Some, None}
use Rattle.std.specs.List.{count_by, find, list_any, prefix_len}
use Rattle.std.specs.Option.{is_some}
use Rattle.std.specs.Str.{bytes_eq, str_eq_ignore_ascii_case}
use Rattle.fault_notes.specs.declared.note.Context.{Context}
use Rattle.lexer.specs.Stray.{first_stray}
use Rattle.line_parts.specs.Lexemes.{lexemes}
use Rattle.line_parts.specs.declared.token.Token.{Token}
use Rattle.model.specs.Mnemonics.{mnemonic_named}
use Rattle.model.specs.Names.{Definitions, number_in}
use Rattle.model.specs.Reading.{Read, expression_of}
use Rattle.model.specs.Token.{Lexeme, begins, is_blank, is_letter, is_source_byte, is_word_byte, tokens_of}
use Rattle.model.specs.declared.expression.TokenKind.{TokenKind}
use Rattle.model.specs.declared.expression.TokenKind.TheVariants.{Word, Directive}
use Rattle.model.specs.declared.instruction.Profile.{Profile}
use Rattle.model.specs.declared.source_fault.AsmFaultKind.{AsmFaultKind}
use Rattle.model.specs.declared.source_fault.AsmFaultKind.TheVariants.{LineTooLong, NotAscii, Syntax, ReservedName, DuplicateName, UnknownHere, UndefinedName}
use Rattle.source_notes.specs.Lines.{name_view}
use Rattle.source_notes.specs.Operands.{after_label, end_of, is_symbol, operand_of, operand_place}
use Rattle.source_notes.specs.RightWord.{Names, right_of}
use Rattle.source_notes.specs.declared.note.Note.{Note}

-- The first byte that is meant, counted from 0, and how many are.
abbrev pub Place : Type 0
Place = ℕ × ℕ

abbrev pub note_place : Note → Place
note_place note = (note.start, note.width)

-- The place of a note, and its right word, if it has one.
abbrev pub facts_of : Note → Place × Option (List ℕ)
facts_of note = (note_place note, right_of note)

-- A note of this place without a right word.
abbrev pub IsPlain : Place → Note → Type 0
IsPlain place note = facts_of note ≡ (place, None)

-- A word passes a test, and stands among these words.
abbrev pub IsRight : (List ℕ → Bool) → List ℕ → Option (List ℕ) → Type 0
IsRight may_be words None = ⊤
IsRight may_be words (Some word) = (may_be word ≡ true) × Names words word

-- The right word of a note, if it has one, passes a test, and the words of the note name it.
abbrev pub HasRight : (List ℕ → Bool) → Note → Type 0
HasRight may_be note = IsRight may_be note.words.items (right_of note)

-- A note of this place, with such a right word or without one.
pub record IsNote (place : Place) (may_be : List ℕ → Bool) (note : Note) : Type 0 where
  pub means : note_place note ≡ place
  pub right : HasRight may_be note

abbrev pub token_place : Token → Place
token_place token = (token.start, length token.text.now)

-- The first of some tokens; the byte at this index where there is none.
abbrev pub first_or : ℕ → List Lexeme → Place
first_or index [] = (index, 1)
first_or index (first ∷ rest) = (first.start, length first.text)

-- A token, if there is one, and otherwise this.
abbrev pub token_or : Place → Option Token → Place
token_or place None = place
token_or place (Some token) = token_place token

-- ---- a line that is not made of tokens

-- The first byte that begins no token, with the letters, digits and `_` after it.
abbrev pub stray_place : List ℕ → Option ℕ → Place
stray_place line None = (prefix_len is_blank line, 1)
stray_place line (Some start) = (start, prefix_len is_word_byte (drop 1 (drop start line)) + 1)

-- ---- tokens that are none of the grammar

-- An expression that cannot be read: its first token. One that can be: the token that is left over.
-- Where there is no such token, the byte at this index.
abbrev pub unless_read : ℕ → List Lexeme → Read → Place
unless_read index tokens None = first_or index tokens
unless_read index tokens (Some read) = first_or index read.1

abbrev pub expression_place : ℕ → List Token → Place
expression_place index tokens
    = unless_read index (lexemes tokens) (expression_of (lexemes tokens))

-- How often a symbol stands among tokens.
abbrev pub count_of : ℕ → List Token → ℕ
count_of symbol tokens = count_by (λ token. is_symbol token symbol) tokens

abbrev pub first_of : ℕ → List Token → Option Token
first_of symbol tokens = find (λ token. is_symbol token symbol) tokens

-- The first opening bracket, if more are opened than closed.
abbrev pub unclosed : ℕ → ℕ → List Token → Option Token
unclosed opening closing tokens
    = if nat_lt (count_of closing tokens) (count_of opening tokens)
    then first_of opening tokens else None

-- From the first of some tokens to the last.
abbrev pub span : Option Token → Option Token → Place
span (Some first) (Some last) = (first.start, end_of last - first.start)
span first last = (0, 1)

abbrev pub whole : List Token → Place
whole tokens = span (slice_get tokens 0) (slice_get tokens (length tokens - 1))

-- A round bracket within an expression; otherwise what is wrong with the expression.
abbrev pub inside_place : ℕ → List Token → Option Token → Place
inside_place index tokens None = expression_place index tokens
inside_place index tokens (Some round) = token_place round

-- An operand whose brackets are closed: all of it where it begins with `(`, and what comes after a
-- `#` or `!`.
abbrev pub closed_place : ℕ → List Token → Place
closed_place index [] = expression_place index []
closed_place index (first ∷ rest) = if is_symbol first 40 then whole (first ∷ rest)
    else if is_symbol first 35 || is_symbol first 33 then expression_place (end_of first) rest
    else inside_place index (first ∷ rest) (first_of 40 (first ∷ rest))

-- An operand: the bracket that is not closed, a round one first.
abbrev pub unclosed_or : ℕ → List Token → Option Token → Option Token → Place
unclosed_or index tokens (Some round) square = token_place round
unclosed_or index tokens None (Some square) = token_place square
unclosed_or index tokens None None = closed_place index tokens

-- The operand of an instruction that is none of the grammar, behind this index.
abbrev pub wrong_operand_place : ℕ → List Token → Place
wrong_operand_place index tokens
    = unclosed_or index tokens (unclosed 40 41 tokens) (unclosed 91 93 tokens)

abbrev pub is_directive : List ℕ → Bool
is_directive text = str_eq_ignore_ascii_case text (codes ".BYTE")
    || str_eq_ignore_ascii_case text (codes ".WORD")
    || str_eq_ignore_ascii_case text (codes ".DBYTE")
    || str_eq_ignore_ascii_case text (codes ".RES") || str_eq_ignore_ascii_case text (codes ".END")

-- A mnemonic of a profile, or a directive.
abbrev pub is_operation : Profile → List ℕ → Bool
is_operation profile word = is_some (mnemonic_named profile word) || is_directive word

-- An operation: the operand of a mnemonic or of a directive; otherwise the first token.
abbrev pub operation_place : Profile → TokenKind → Token → List Token → Place
operation_place profile Word first rest
    = if is_some (mnemonic_named profile first.text.now) then wrong_operand_place (end_of first) rest
    else token_place first
operation_place profile Directive first rest
    = if is_directive first.text.now then expression_place (end_of first) rest
    else token_place first
operation_place profile kind first rest = token_place first

abbrev pub is_word : TokenKind → Bool
is_word Word = true
is_word kind = false

-- What stands before the `=` of a definition or of `*=`.
abbrev pub may_be_defined : Token → Bool
may_be_defined token = is_word token.kind || is_symbol token 42

-- A line behind its label.
abbrev pub form_place : Profile → List Token → Place
form_place profile [] = (0, 1)
form_place profile (first ∷ []) = operation_place profile first.kind first []
form_place profile (first ∷ second ∷ rest) = if is_symbol second 61 && may_be_defined first
    then expression_place (end_of second) rest
    else operation_place profile first.kind first (second ∷ rest)

-- A line: what stands before a `:` and is no name; otherwise what is behind the label.
abbrev pub line_place : Profile → List Token → Place
line_place profile (label ∷ colon ∷ rest) = if is_symbol colon 58 && not (is_word label.kind)
    then token_place label else form_place profile (after_label (label ∷ colon ∷ rest))
line_place profile tokens = form_place profile (after_label tokens)

-- ---- names

abbrev pub is_register : List ℕ → Bool
is_register text = str_eq_ignore_ascii_case text (codes "A")
    || str_eq_ignore_ascii_case text (codes "X") || str_eq_ignore_ascii_case text (codes "Y")

-- A mnemonic, A, X or Y.
abbrev pub is_reserved : Profile → Token → Bool
is_reserved profile token = is_word token.kind
    && (is_register token.text.now || is_some (mnemonic_named profile token.text.now))

-- The first token, if the second one is this symbol.
abbrev pub first_before : ℕ → List Token → List Token
first_before symbol (first ∷ second ∷ rest) = if is_symbol second symbol then first ∷ [] else []
first_before symbol tokens = []

-- The tokens of a line that may be names: its label, what it defines, its operand.
abbrev pub places_of_names : List Token → List Token
places_of_names tokens
    = first_before 58 tokens ++ (first_before 61 (after_label tokens) ++ operand_of tokens)

-- What is known of the names of a source: those that its lines begin with, each with the number of
-- its line, and the numbers of those that are defined.
pub record Known : Type 0 where
  pub profile : Profile
  pub names : List (List ℕ × ℕ)
  pub numbers : Definitions

abbrev pub known_of : Context → Known
known_of context = record {
  profile = context.profile;
  names = map name_view context.names.now;
  numbers = context.symbols.now;
}

-- A word that a line may define: it begins with a letter and has at most 31 bytes, and is neither a
-- mnemonic nor A, X or Y.
abbrev pub may_be_name : Profile → List ℕ → Bool
may_be_name profile word = begins is_letter word && nat_le (length word) 31
    && not (is_register word || is_some (mnemonic_named profile word))

-- Whether a line begins with a word.
abbrev pub begins_line : List (List ℕ × ℕ) → List ℕ → Bool
begins_line names word = list_any (λ name. bytes_eq name.0 word) names

-- A name with which a line begins.
abbrev pub is_line_name : Known → List ℕ → Bool
is_line_name known word = may_be_name known.profile word && begins_line known.names word

-- A name of an earlier line.
abbrev pub is_earlier : ℕ → List ℕ → List ℕ × ℕ → Bool
is_earlier number text name = nat_lt name.1 number && bytes_eq name.0 text

abbrev pub is_text : List ℕ → Token → Bool
is_text text token = bytes_eq token.text.now text

-- A name is the label of this line or defined before it.
abbrev pub is_known_before : Known → ℕ → List Token → List ℕ → Bool
is_known_before known number tokens text = list_any (is_text text) (first_before 58 tokens)
    || list_any (is_earlier number text) known.names

-- A name is known where its value is needed at once, or at the end of the source.
abbrev pub is_known : Known → Bool → ℕ → List Token → List ℕ → Bool
is_known known true number tokens text = is_known_before known number tokens text
is_known known false number tokens text = is_some (number_in known.numbers text)

abbrev pub is_unknown : Known → Bool → ℕ → List Token → Token → Bool
is_unknown known at_once number tokens token = is_word token.kind
    && not (is_register token.text.now) && not (is_known known at_once number tokens token.text.now)

abbrev pub unknown_place : Known → Bool → ℕ → List ℕ → List Token → Place
unknown_place known at_once number line tokens = token_or (operand_place line tokens)
    (find (is_unknown known at_once number tokens) (operand_of tokens))

-- ---- all faults

-- A fault of this kind in a line of this number and of these tokens.
abbrev pub tokens_place : Known → AsmFaultKind → ℕ → List ℕ → List Token → Place
tokens_place known Syntax number line tokens = line_place known.profile tokens
tokens_place known ReservedName number line tokens = token_or (operand_place line tokens)
    (find (is_reserved known.profile) (places_of_names tokens))
tokens_place known DuplicateName number line tokens = token_or (0, 1) (slice_get tokens 0)
tokens_place known UnknownHere number line tokens = unknown_place known true number line tokens
tokens_place known UndefinedName number line tokens = unknown_place known false number line tokens
tokens_place known kind number line tokens = operand_place line tokens

-- Which word may be right: an operation where tokens are none of the grammar, and a name with which
-- a line begins where a name is not known.
abbrev pub may_be_right : Known → AsmFaultKind → List ℕ → Bool
may_be_right known Syntax word = is_operation known.profile word
may_be_right known UnknownHere word = is_line_name known word
may_be_right known UndefinedName word = is_line_name known word
may_be_right known kind word = false

-- By the tokens of a line, or by the byte that begins none.
abbrev pub IsMeantBy : Known → AsmFaultKind → ℕ → List ℕ → Note → Type 0
IsMeantBy known kind number line note =
    ((tokens_of line ≡ None) × IsPlain (stray_place line (first_stray line)) note)
    ⊎ ((tokens : List Token) × (tokens_of line ≡ Some (lexemes tokens))
    × IsNote (tokens_place known kind number line tokens) (may_be_right known kind) note)

-- What a fault of this kind means in a line, and which word may be right there.
abbrev pub IsMeant : Known → AsmFaultKind → ℕ → List ℕ → Note → Type 0
IsMeant known LineTooLong number line note = IsPlain (255, 1) note
IsMeant known NotAscii number line note = IsPlain (prefix_len is_source_byte line, 1) note
IsMeant known kind number line note = IsMeantBy known kind number line note
