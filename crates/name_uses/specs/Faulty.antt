-- Words in lines whose text has a fault. Which of them are names is not known before such a line is
-- mended. Source: mos65.
use Rattle.std.specs.Prelude.{ℕ, ◌+◌, Bool, false, not, ◌&&◌, ◌||◌, is_err, if◌then◌else◌, List, [], ◌∷◌, Option, Some, None}
use Rattle.std.specs.Str.{bytes_eq}
use Rattle.model.specs.AllFaults.{word_at}
use Rattle.model.specs.Source.{read_lines}
use Rattle.model.specs.SourceLine.{read_line}
use Rattle.model.specs.Token.{is_word_byte}
use Rattle.model.specs.declared.instruction.Profile.{Profile}

-- Whether a word stands in a text: these letters, digits and `_`, with none next to them. `behind`
-- says whether one stands in front of the text.
unfoldable pub has_word : List ℕ → Bool → List ℕ → Bool
has_word word behind [] = false
has_word word behind (b ∷ bs) = (not behind && bytes_eq (word_at (b ∷ bs)) word)
    || has_word word (is_word_byte b) bs

abbrev pub has_either : List ℕ → List ℕ → List ℕ → Bool
has_either word other line = has_word word false line || has_word other false line

-- The text of a line has a fault, and one of two words stands there.
abbrev pub is_faulty : Profile → List ℕ → List ℕ → List ℕ → Bool
is_faulty profile word other line
    = is_err (read_line profile line) && has_either word other line

-- The number of the first such line among lines, the first of which has this number.
unfoldable pub faulty_from : Profile → List ℕ → List ℕ → ℕ → List (List ℕ) → Option ℕ
faulty_from profile word other number [] = None
faulty_from profile word other number (line ∷ lines) = if is_faulty profile word other line
    then Some number else faulty_from profile word other (number + 1) lines

-- That of a source, up to its end.
unfoldable pub faulty_line : Profile → List ℕ → List ℕ → List ℕ → Option ℕ
faulty_line profile source word other
    = faulty_from profile word other 1 (read_lines profile source)
