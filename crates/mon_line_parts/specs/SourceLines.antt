-- A line of the source in the place of an address: `:6`, which is one of the first file, or
-- `hello.a65:6`. Source: mos65.
use Rattle.std.specs.Prelude.{ℕ, ℤ, pos, ◌+◌, ◌-◌, ◌%◌, ◌==◌, ◌&&◌, ◌||◌, not, nat_lt, Bool, if◌then◌else◌, List, [], ◌∷◌, drop, length, Option, Some, None, Ok, Err}
use Rattle.std.specs.Str.{byte, bytes_eq}
use Rattle.lexer.specs.Front.{is_next}
use Rattle.model.specs.Token.{is_blank}
use Rattle.source_map.specs.Lines.{PlacesView, SourceView, address_from}
use Rattle.mon_line_parts.specs.Reading.{Reads, SeenFlaw, no_bytes, no_source, other_source, after, after_word, behind_part, is_empty, number_in, up_to, word_of}

-- ---- how it is written

-- A byte of a file's name, which `:` ends.
abbrev pub is_file_byte : ℕ → Bool
is_file_byte b = not (is_blank b || b == byte ":")

-- The name of a file at the front, which may have no byte, and the text behind it.
abbrev pub file_word : List ℕ → List ℕ
file_word text = up_to is_file_byte text

abbrev pub after_file : List ℕ → List ℕ
after_file text = behind_part is_file_byte text

-- The decimal digits behind a file's name and `:`, as a number.
unfoldable pub line_number : List ℕ → Option ℕ
line_number text = if is_next (byte ":") (after_file text)
    then number_in 10 (word_of (after 1 (after_file text))) else None

-- The text behind them.
abbrev pub after_line : List ℕ → List ℕ
after_line text = after_word (after 1 (after_file text))

-- ---- which source it is of

-- The last bytes of a text.
abbrev pub tail : ℕ → List ℕ → List ℕ
tail count text = drop (length text - count) text

-- Whether a name is that of a file: the whole path, or what stands behind a `/` of it.
abbrev pub is_name_of : List ℕ → List ℕ → Bool
is_name_of path name = bytes_eq path name
    || (is_next (byte "/") (tail (length name + 1) path) && bytes_eq (tail (length name) path) name)

-- The number of the first file that has a name; numbers have 32 bits.
abbrev pub first_file : ℕ → List SourceView → List ℕ → Option ℕ
first_file number [] name = None
first_file number (source ∷ sources) name = if is_name_of source.name name then Some number
    else first_file ((number + 1) % 4294967296) sources name

-- The file that a name means: the first one of the source if there is no name.
abbrev pub file_asked : List SourceView → List ℕ → Option ℕ
file_asked sources name = if is_empty name then Some 0 else first_file 0 sources name

abbrev pub line_in : Option ℕ → Option ℕ → Option (ℕ × ℕ)
line_in None line = None
line_in (Some file) None = None
line_in (Some file) (Some line) = Some (file, line)

-- The file and the line that a text names, if it names a line of the source.
unfoldable pub own_line : PlacesView → List ℕ → Option (ℕ × ℕ)
own_line places text = line_in (file_asked places.sources (file_word text)) (line_number text)

-- ---- its address

-- Whether lines of a source are known.
abbrev pub has_lines : PlacesView → Bool
has_lines places = nat_lt 0 (length places.lines)

abbrev pub address_or : ℕ → Option ℕ → List ℕ → Reads ℤ
address_or line (Some address) rest = Ok (pos address, rest)
address_or line None rest = Err (no_bytes line)

-- The address of a line of a file, or of the next one that has bytes.
unfoldable pub line_address : PlacesView → ℕ → ℕ → List ℕ → Reads ℤ
line_address places file line rest = if has_lines places
    then address_or line (address_from places.sites file line) rest else Err no_source

-- Why a line of another file has none.
abbrev pub no_line_of : PlacesView → List ℕ → SeenFlaw
no_line_of places name = if has_lines places then other_source name else no_source
