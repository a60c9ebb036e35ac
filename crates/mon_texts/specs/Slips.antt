-- Why a line cannot be read. Source: mos65.
use Rattle.std.specs.Prelude.{ℕ, if◌then◌else◌, List, [], ◌∷◌, ◌++◌, decimal}
use Rattle.std.specs.List.{flat_map}
use Rattle.std.specs.Str.{byte}
use Rattle.model.specs.Token.{is_printable}
use Rattle.mon_line_parts.specs.Reading.{SeenFlaw, unknown, several, missing, unreadable, behind, no_name, range, no_bytes, other_source, no_source, many, long}
use Rattle.mon_line_parts.specs.Topics.{TopicWord, begins_with, words}
use Rattle.mon_line_parts.specs.declared.slip.Lack.{Lack}
use Rattle.mon_line_parts.specs.declared.slip.Lack.TheVariants as lacking
use Rattle.mon_texts.specs.declared.wording.TheConstants.{ADDEND, AND, AN_ADDRESS, AN_INSTRUCTION, A_FILE, A_NUMBER, A_REGISTER, A_VALUE, BINARY_DIGITS, COMPARISON, HAS_BYTES, HEX_DIGITS, LAST_ADDRESS, LEFT_OVER, LEVEL, LINE_TOO_LONG, MISSING, NOT_BETWEEN, NO_LINE_FROM, NO_NAME, NO_SOURCE, NO_WORD, OTHER_SOURCE, POINTS, QUOTED_TEXT, SEVERAL_WORDS, SUBTRAHEND, TIMES_NUMBER, TOO_MANY, UNREADABLE}

-- A byte between quotes: `?` is put for one that is no character.
abbrev pub quoted_byte : ℕ → List ℕ
quoted_byte b = (if is_printable b then b else byte "?") ∷ []

-- A piece of a line between quotes.
abbrev pub quoted : List ℕ → List ℕ
quoted piece = 39 ∷ flat_map quoted_byte piece ++ 39 ∷ []

abbrev pub quoted_and : List ℕ → List ℕ → List ℕ
quoted_and piece words = quoted piece ++ words

-- What is missing in a line.
abbrev pub lack_text : Lack → List ℕ
lack_text lacking.HexDigits = HEX_DIGITS.now
lack_text lacking.BinaryDigits = BINARY_DIGITS.now
lack_text lacking.Address = AN_ADDRESS.now
lack_text lacking.Value = A_VALUE.now
lack_text lacking.Number = A_NUMBER.now
lack_text lacking.Addend = ADDEND.now
lack_text lacking.Subtrahend = SUBTRAHEND.now
lack_text lacking.Text = QUOTED_TEXT.now
lack_text lacking.Comparison = COMPARISON.now
lack_text lacking.Times = TIMES_NUMBER.now
lack_text lacking.Points = POINTS.now
lack_text lacking.LastAddress = LAST_ADDRESS.now
lack_text lacking.Register = A_REGISTER.now
lack_text lacking.Level = LEVEL.now
lack_text lacking.Instruction = AN_INSTRUCTION.now
lack_text lacking.File = A_FILE.now

abbrev pub range_text : ℕ → ℕ → List ℕ
range_text least most
    = NOT_BETWEEN.now ++ decimal least ++ AND.now ++ decimal most

-- That no line from one on has bytes.
abbrev pub no_bytes_text : ℕ → List ℕ
no_bytes_text line = NO_LINE_FROM.now ++ decimal line ++ HAS_BYTES.now

-- The words of some that begin with a piece, each behind a blank.
abbrev pub candidate : List ℕ → List ℕ → List ℕ
candidate piece word = if begins_with word piece then 32 ∷ word else []

abbrev pub candidates : List ℕ → List TopicWord → List ℕ
candidates piece rows = flat_map (λ row. candidate piece row.0) rows

-- Why a line cannot be read.
unfoldable pub slip_text : SeenFlaw → List ℕ
slip_text (unknown word) = quoted_and word NO_WORD.now
slip_text (several word)
    = quoted_and word SEVERAL_WORDS.now ++ candidates word words
slip_text (missing lack) = MISSING.now ++ lack_text lack
slip_text (unreadable piece) = quoted_and piece UNREADABLE.now
slip_text (behind piece) = quoted_and piece LEFT_OVER.now
slip_text (no_name word)
    = quoted_and word NO_NAME.now
slip_text (range least most) = range_text least most
slip_text (no_bytes line) = no_bytes_text line
slip_text (other_source name) = quoted_and name OTHER_SOURCE.now
slip_text no_source = NO_SOURCE.now
slip_text many = TOO_MANY.now
slip_text long = LINE_TOO_LONG.now
