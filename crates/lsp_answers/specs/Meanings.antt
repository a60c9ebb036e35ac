-- What is meant at a place. Source: Language Server Protocol 3.17, "Hover Request"; of what is said
-- where, mos65.
use Rattle.std.specs.Prelude.{ℕ, ◌-◌, ◌&&◌, nat_le, nat_lt, is_some, if◌then◌else◌, Bool, true, false, List, [], codes, length, Option, Some, None, option_and_then, slice_get}
use Rattle.std.specs.List.{find}
use Rattle.std.specs.Option.{option_map}
use Rattle.std.specs.Str.Lossy.{utf8_lossy}
use Rattle.lsp_answers.specs.Above.{name_lines}
use Rattle.lsp_answers.specs.Literals.{directive_words, literal_words}
use Rattle.lsp_answers.specs.Markdown.{markdown as marked_words}
use Rattle.lsp_answers.specs.Said.{instruction_words, name_words}
use Rattle.lsp_answers.specs.Texts.{TextView, line_at, name_at, number_in, range_in, use_range}
use Rattle.lsp_messages.specs.Columns.{column_of}
use Rattle.lsp_messages.specs.TextPlaces.{lines_between}
use Rattle.lsp_messages.specs.Values.{hover_data}
use Rattle.model.specs.AllFaults.{Found, fixed_by, found_lines, smallest}
use Rattle.model.specs.Layout.{Content, no_bytes, byte_list, word_list, word_list_high_first, code}
use Rattle.model.specs.Mnemonics.{mnemonic_named}
use Rattle.model.specs.Names.{Definitions}
use Rattle.model.specs.OpcodeTable.{row_at}
use Rattle.model.specs.Source.{first_context, read_lines}
use Rattle.model.specs.Token.{Lexeme, tokens_of}
use Rattle.model.specs.declared.expression.TokenKind.{TokenKind}
use Rattle.model.specs.declared.expression.TokenKind.TheVariants.{Word, Directive, Number, Char, Str, Symbol}
use Rattle.model.specs.declared.instruction.Profile.{Profile}
use Rattle.name_uses.specs.Uses.{Use}
use Rattle.serde_json.specs.Data.{Data, null}

-- ---- the lines of a text, those with a fault of the layout mended

-- What is found of them.
unfoldable pub found_in : TextView → List Found
found_in t = found_lines smallest (first_context t.profile) (read_lines t.profile t.source)

-- The numbers of their names.
unfoldable pub numbers_in : TextView → Definitions
numbers_in t = (fixed_by smallest (first_context t.profile) (read_lines t.profile t.source)).names

-- ---- the instruction of a line

-- What is said of what stands at an address, if it is an instruction.
abbrev pub said_by : Profile → ℕ → Content → Option (List ℕ)
said_by profile address (code opcode mode term)
    = option_map (instruction_words profile opcode address) (row_at profile opcode)
said_by profile address no_bytes = None
said_by profile address (byte_list items) = None
said_by profile address (word_list es) = None
said_by profile address (word_list_high_first es) = None

abbrev pub said_of : Profile → Found → Option (List ℕ)
said_of profile f = said_by profile f.place.address f.place.content

-- By the number of the line.
abbrev pub said_on : Profile → List Found → ℕ → Option (List ℕ)
said_on profile found number = option_and_then (said_of profile) (slice_get found (number - 1))

-- ---- the token at a column of a line

-- Something is said of a mnemonic, a directive, a number and a character.
abbrev pub is_told : Profile → TokenKind → List ℕ → Bool
is_told profile Word text = is_some (mnemonic_named profile text)
is_told profile Directive text = true
is_told profile Number text = true
is_told profile Char text = true
is_told profile Str text = false
is_told profile Symbol text = false

abbrev pub is_told_on : Profile → ℕ → Lexeme → Bool
is_told_on profile column t = nat_le t.start column
    && nat_le (column - t.start) (length t.text) && is_told profile t.kind t.text

abbrev pub tokens_or_none : Option (List Lexeme) → List Lexeme
tokens_or_none None = []
tokens_or_none (Some ts) = ts

abbrev pub token_on : Profile → ℕ → List ℕ → Option Lexeme
token_on profile column line
    = find (is_told_on profile column) (tokens_or_none (tokens_of line))

-- What is said of it: of a word the instruction of its line, if there is one; of a directive what it
-- does; of a number or a character its number.
abbrev pub words_in : TokenKind → Profile → List Found → ℕ → Lexeme → Option (List ℕ)
words_in Word profile found number t = said_on profile found number
words_in Directive profile found number t = directive_words t.text
words_in Number profile found number t = literal_words t
words_in Char profile found number t = literal_words t
words_in Str profile found number t = None
words_in Symbol profile found number t = None

abbrev pub token_words : Profile → List Found → ℕ → Lexeme → Option (List ℕ)
token_words profile found number t = words_in t.kind profile found number t

-- ---- what is meant, in Markdown or in plain text, of a text that its client has as `written`

-- Words that are said of a range, in Markdown behind lines of the source.
abbrev pub said : Bool → List ℕ → List ℕ → Data → Data
said markdown lines words range = if markdown
    then hover_data (codes "markdown") (utf8_lossy (marked_words lines words)) range
    else hover_data (codes "plaintext") (utf8_lossy words) range

-- Of a name, its number and where it is defined.
abbrev pub of_name : Bool → List ℕ → Definitions → TextView → Use → Data
of_name markdown written numbers t u = said markdown (name_lines written t u)
    (name_words numbers t.uses u.text) (use_range t u)

-- A line by its number, counted from 1.
abbrev pub line_alone : List ℕ → ℕ → List ℕ
line_alone written number = lines_between written (number - 1) (number - 1)

-- Of a token, if something is said of it.
abbrev pub of_words : Bool → List ℕ → TextView → ℕ → Lexeme → Option (List ℕ) → Data
of_words markdown written t number token None = null
of_words markdown written t number token (Some words) = said markdown (line_alone written number)
    words (range_in t number token.start (length token.text))

abbrev pub of_token : Bool → List ℕ → TextView → ℕ → Option Lexeme → Data
of_token markdown written t number None = null
of_token markdown written t number (Some token)
    = of_words markdown written t number token (token_words t.profile (found_in t) number token)

abbrev pub of_line : Bool → List ℕ → TextView → ℕ → Option ℕ → Data
of_line markdown written t character None = null
of_line markdown written t character (Some number) = of_token markdown written t number
    (token_on t.profile (column_of character (line_at t number)) (line_at t number))

abbrev pub of_place : Bool → List ℕ → TextView → ℕ → ℕ → Option Use → Data
of_place markdown written t line character None
    = of_line markdown written t character (number_in t line)
of_place markdown written t line character (Some u) = of_name markdown written (numbers_in t) t u

abbrev pub meaning_by : Bool → Bool → List ℕ → TextView → ℕ → ℕ → Data
meaning_by true markdown written t line character = null
meaning_by false markdown written t line character
    = of_place markdown written t line character (name_at t line character)

-- What is meant at a place: of a name, or else of a token; `null` where nothing is said of either,
-- and in a source that is too long.
abbrev pub meaning_of : Bool → List ℕ → TextView → ℕ → ℕ → Data
meaning_of markdown written t line character
    = meaning_by (nat_lt 1048576 (length t.source)) markdown written t line character
