-- What a line of a source says. Source: mos65.
--     line      = [name ":"] [operation] | name "=" expr
--     operation = mnemonic [operand] | "*" "=" expr | ".BYTE" item {"," item}
--               | ".WORD" expr {"," expr} | ".DBYTE" expr {"," expr} | ".RES" expr | ".END"
--     item      = expr | string
--     operand   = "A" | "#" expr | ["!"] expr ["," ("X" | "Y")] | "(" expr ")"
--               | "(" expr "," "X" ")" | "(" expr ")" "," "Y"
-- Mnemonics, directives, A, X and Y are read in either letter case; names keep theirs. A word
-- before `:` or `=` at a line's start is a name, even if it is a mnemonic.
use Rattle.std.specs.Prelude.{ℕ, zero, suc, ◌-◌, Bool, true, false, not, ◌||◌, ◌&&◌, nat_lt, if◌then◌else◌, List, [], ◌∷◌, length, take, drop, codes, Option, Some, None, is_some, Result, Ok, Err}
use Rattle.std.specs.List.{list_all, list_any}
use Rattle.std.specs.Option.{option_map, option_and_then}
use Rattle.std.specs.Str.{byte, bytes_eq, str_to_ascii_uppercase}
use Rattle.model.specs.declared.expression.TokenKind.{TokenKind}
use Rattle.model.specs.declared.expression.TokenKind.TheVariants.{Word, Directive, Number, Char, Str, Symbol}
use Rattle.model.specs.declared.line.Index.{Index}
use Rattle.model.specs.declared.line.Index.TheVariants as index
use Rattle.model.specs.declared.instruction.Profile.{Profile}
use Rattle.model.specs.declared.instruction.Mnemonic.{Mnemonic}
use Rattle.model.specs.declared.source_fault.AsmFaultKind.{AsmFaultKind}
use Rattle.model.specs.declared.source_fault.AsmFaultKind.TheVariants.{LineTooLong, NotAscii, Syntax, ReservedName}
use Rattle.model.specs.Mnemonics.{mnemonic_named}
use Rattle.model.specs.Token.{Lexeme, is_source_byte, tokens_of}
use Rattle.model.specs.Expression.{Term, literal, name, here, negated, binary, low, high}
use Rattle.model.specs.Reading.{is_symbol, expression_of}

-- An operand as it is written. A direct one may be marked with `!`.
pub data Operand : Type 0 where
  absent : Operand
  accumulator : Operand
  immediate : Term → Operand
  direct : Bool → Term → Index → Operand
  pointer : Term → Operand
  pointer_by_x : Term → Operand
  pointer_by_y : Term → Operand

-- An item of `.BYTE`: an expression, or the bytes of a string.
pub data Item : Type 0 where
  value : Term → Item
  string : List ℕ → Item

-- What stands after a line's label.
pub data Statement : Type 0 where
  nothing : Statement
  origin : Term → Statement
  bytes : List Item → Statement
  words : List Term → Statement
  words_high_first : List Term → Statement
  reserve : Term → Statement
  finish : Statement
  instruction : Mnemonic → Operand → Statement

-- A line: a statement after a label, if there is one; or the definition of a name.
pub data Line : Type 0 where
  labelled : Option (List ℕ) → Statement → Line
  definition : List ℕ → Term → Line

-- ---- operands

-- Whether a token is a word, in either letter case.
abbrev pub is_word_in : TokenKind → List ℕ → List ℕ → Bool
is_word_in Word text capitals = bytes_eq (str_to_ascii_uppercase text) capitals
is_word_in Directive text capitals = false
is_word_in Number text capitals = false
is_word_in Char text capitals = false
is_word_in Str text capitals = false
is_word_in Symbol text capitals = false

abbrev pub is_word : List ℕ → Lexeme → Bool
is_word capitals t = is_word_in t.kind t.text capitals

-- What was read, if no token is left after it.
abbrev pub alone : Term → List Lexeme → Option Term
alone e [] = Some e
alone e (t ∷ ts) = None

-- Tokens that are an expression all together.
unfoldable pub whole_expression : List Lexeme → Option Term
whole_expression ts = option_and_then (λ p. alone p.0 p.1) (expression_of ts)

-- `,X` or `,Y` after an expression, or nothing.
abbrev pub direct_after : Bool → Term → List Lexeme → Option Operand
direct_after marked e [] = Some (direct marked e index.Unindexed)
direct_after marked e (c ∷ w ∷ []) =
    if is_symbol (byte ",") c && is_word (codes "X") w then Some (direct marked e index.X)
    else if is_symbol (byte ",") c && is_word (codes "Y") w then Some (direct marked e index.Y)
    else None
direct_after marked e (c ∷ []) = None
direct_after marked e (c ∷ w ∷ t ∷ ts) = None

-- What closes a round bracket after its expression: `)`, `,X)` or `),Y`.
abbrev pub pointer_after : Term → List Lexeme → Option Operand
pointer_after e (c ∷ []) = if is_symbol (byte ")") c then Some (pointer e) else None
pointer_after e (a ∷ b ∷ c ∷ []) =
    if is_symbol (byte ",") a && is_word (codes "X") b && is_symbol (byte ")") c
    then Some (pointer_by_x e)
    else if is_symbol (byte ")") a && is_symbol (byte ",") b && is_word (codes "Y") c
    then Some (pointer_by_y e)
    else None
pointer_after e [] = None
pointer_after e (a ∷ b ∷ []) = None
pointer_after e (a ∷ b ∷ c ∷ t ∷ ts) = None

abbrev pub direct_operand : Bool → List Lexeme → Option Operand
direct_operand marked ts = option_and_then (λ p. direct_after marked p.0 p.1) (expression_of ts)

abbrev pub is_alone : List Lexeme → Bool
is_alone [] = true
is_alone (t ∷ ts) = false

-- The operand that the tokens after a mnemonic are. The word A alone is the accumulator.
unfoldable pub operand_of : List Lexeme → Option Operand
operand_of [] = Some absent
operand_of (t ∷ ts) =
    if is_alone ts && is_word (codes "A") t then Some accumulator
    else if is_symbol (byte "#") t then option_map immediate (whole_expression ts)
    else if is_symbol (byte "(") t
    then option_and_then (λ p. pointer_after p.0 p.1) (expression_of ts)
    else if is_symbol (byte "!") t then direct_operand true ts
    else direct_operand false (t ∷ ts)

-- ---- statements

-- What was read, and after a comma what goes on.
abbrev pub list_after : {A : Type 0} → (List Lexeme → Option (List A)) → A → List Lexeme
    → Option (List A)
list_after more a [] = Some (a ∷ [])
list_after more a (c ∷ ts) = if is_symbol (byte ",") c then option_map (λ rest. a ∷ rest) (more ts)
    else None

-- At most so many of what is read, separated by commas.
unfoldable pub list_within : {A : Type 0} → (List Lexeme → Option (A × List Lexeme)) → ℕ
    → List Lexeme → Option (List A)
list_within read zero ts = None
list_within read (suc n) ts
    = option_and_then (λ p. list_after (λ more. list_within read n more) p.0 p.1) (read ts)

-- The expressions, separated by commas, that some tokens are. There are no more of them than
-- tokens.
abbrev pub expressions_of : List Lexeme → Option (List Term)
expressions_of ts = list_within expression_of (length ts) ts

-- The bytes between the quotes of a string.
abbrev pub string_in : TokenKind → List ℕ → Option (List ℕ)
string_in Str text = Some (take (length text - 2) (drop 1 text))
string_in Word text = None
string_in Directive text = None
string_in Number text = None
string_in Char text = None
string_in Symbol text = None

abbrev pub item_or : Option (List ℕ) → List Lexeme → Option (Term × List Lexeme)
    → Option (Item × List Lexeme)
item_or (Some text) ts read = Some (string text, ts)
item_or None ts read = option_map (λ p. (value p.0, p.1)) read

-- The item with which some tokens begin.
abbrev pub item_of : List Lexeme → Option (Item × List Lexeme)
item_of [] = None
item_of (t ∷ ts) = item_or (string_in t.kind t.text) ts (expression_of (t ∷ ts))

abbrev pub items_of : List Lexeme → Option (List Item)
items_of ts = list_within item_of (length ts) ts

abbrev pub finish_alone : List Lexeme → Option Statement
finish_alone [] = Some finish
finish_alone (t ∷ ts) = None

abbrev pub is_directive : List ℕ → List ℕ → Bool
is_directive text capitals = bytes_eq (str_to_ascii_uppercase text) capitals

unfoldable pub directive_of : List ℕ → List Lexeme → Option Statement
directive_of text ts =
    if is_directive text (codes ".BYTE") then option_map bytes (items_of ts)
    else if is_directive text (codes ".WORD") then option_map words (expressions_of ts)
    else if is_directive text (codes ".DBYTE") then option_map words_high_first (expressions_of ts)
    else if is_directive text (codes ".RES") then option_map reserve (whole_expression ts)
    else if is_directive text (codes ".END") then finish_alone ts
    else None

abbrev pub origin_after : List Lexeme → Option Statement
origin_after [] = None
origin_after (t ∷ ts) = if is_symbol (byte "=") t then option_map origin (whole_expression ts)
    else None

-- The operation that begins with a token.
abbrev pub operation_by : Profile → TokenKind → Lexeme → List Lexeme → Option Statement
operation_by profile Word t ts = option_and_then (λ m. option_map (instruction m) (operand_of ts))
    (mnemonic_named profile t.text)
operation_by profile Directive t ts = directive_of t.text ts
operation_by profile Symbol t ts = if is_symbol (byte "*") t then origin_after ts else None
operation_by profile Number t ts = None
operation_by profile Char t ts = None
operation_by profile Str t ts = None

-- What the tokens of an operation say.
unfoldable pub statement_of : Profile → List Lexeme → Option Statement
statement_of profile [] = Some nothing
statement_of profile (t ∷ ts) = operation_by profile t.kind t ts

-- ---- lines

abbrev pub unlabelled : Profile → List Lexeme → Option Line
unlabelled profile ts = option_map (labelled None) (statement_of profile ts)

-- A line that begins with a word: a label, a definition, or neither.
abbrev pub word_line : Profile → Lexeme → List Lexeme → Option Line
word_line profile w [] = unlabelled profile (w ∷ [])
word_line profile w (s ∷ ts) =
    if is_symbol (byte ":") s then option_map (labelled (Some w.text)) (statement_of profile ts)
    else if is_symbol (byte "=") s then option_map (definition w.text) (whole_expression ts)
    else unlabelled profile (w ∷ s ∷ ts)

abbrev pub line_by : Profile → TokenKind → Lexeme → List Lexeme → Option Line
line_by profile Word t ts = word_line profile t ts
line_by profile Directive t ts = unlabelled profile (t ∷ ts)
line_by profile Number t ts = unlabelled profile (t ∷ ts)
line_by profile Char t ts = unlabelled profile (t ∷ ts)
line_by profile Str t ts = unlabelled profile (t ∷ ts)
line_by profile Symbol t ts = unlabelled profile (t ∷ ts)

-- What the tokens of a line say.
unfoldable pub line_of : Profile → List Lexeme → Option Line
line_of profile [] = Some (labelled None nothing)
line_of profile (t ∷ ts) = line_by profile t.kind t ts

-- ---- reserved words

-- A mnemonic, A, X or Y, in either letter case.
unfoldable pub is_reserved : Profile → List ℕ → Bool
is_reserved profile text =
    is_some (mnemonic_named profile text) || bytes_eq (str_to_ascii_uppercase text) (codes "A")
    || bytes_eq (str_to_ascii_uppercase text) (codes "X")
    || bytes_eq (str_to_ascii_uppercase text) (codes "Y")

-- Whether an expression uses a reserved word as a name.
abbrev pub term_reserves : Profile → Term → Bool
term_reserves profile (literal v) = false
term_reserves profile (name text) = is_reserved profile text
term_reserves profile here = false
term_reserves profile (negated e) = term_reserves profile e
term_reserves profile (binary op a b) = term_reserves profile a || term_reserves profile b
term_reserves profile (low e) = term_reserves profile e
term_reserves profile (high e) = term_reserves profile e

abbrev pub operand_reserves : Profile → Operand → Bool
operand_reserves profile absent = false
operand_reserves profile accumulator = false
operand_reserves profile (immediate e) = term_reserves profile e
operand_reserves profile (direct marked e by) = term_reserves profile e
operand_reserves profile (pointer e) = term_reserves profile e
operand_reserves profile (pointer_by_x e) = term_reserves profile e
operand_reserves profile (pointer_by_y e) = term_reserves profile e

abbrev pub item_reserves : Profile → Item → Bool
item_reserves profile (value e) = term_reserves profile e
item_reserves profile (string text) = false

abbrev pub reserves : Profile → Statement → Bool
reserves profile nothing = false
reserves profile (origin e) = term_reserves profile e
reserves profile (bytes items) = list_any (item_reserves profile) items
reserves profile (words es) = list_any (term_reserves profile) es
reserves profile (words_high_first es) = list_any (term_reserves profile) es
reserves profile (reserve e) = term_reserves profile e
reserves profile finish = false
reserves profile (instruction m operand) = operand_reserves profile operand

-- Whether a line uses a reserved word as a name.
abbrev pub line_reserves : Profile → Line → Bool
line_reserves profile (labelled None s) = reserves profile s
line_reserves profile (labelled (Some text) s) = is_reserved profile text || reserves profile s
line_reserves profile (definition text e) = is_reserved profile text || term_reserves profile e

-- ---- the line

abbrev pub unreserved : Profile → Option Line → Result Line AsmFaultKind
unreserved profile None = Err Syntax
unreserved profile (Some l) = if line_reserves profile l then Err ReservedName else Ok l

-- What a line says, or the fault of its text. The order of faults: too many bytes, a wrong byte, a
-- wrong form, a reserved word.
unfoldable pub read_line : Profile → List ℕ → Result Line AsmFaultKind
read_line profile line =
    if nat_lt 255 (length line) then Err LineTooLong
    else if not (list_all is_source_byte line) then Err NotAscii
    else unreserved profile (option_and_then (line_of profile) (tokens_of line))
